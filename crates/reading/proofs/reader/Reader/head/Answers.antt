use Rattle.std.proofs.Common.{sym, ap, ◌∙◌, arith}
use Rattle.grammar.specs.Words.{capital}
use Rattle.orders.specs.Texts.{text_byte}
use Rattle.reading.proofs.Describing.{no_term, no_front}
use Rattle.reading.proofs.Marking.{byte_here, byte_none}
use Rattle.reading.proofs.reader.Reader.head.Goals as goal

pub returns-in_default : goal.returns-in_default
returns-in_default c =
    let line = c.args.self.now.line.now in
    record {
      answer = λ d at. no_term line c.args.at d at c.requires.0 (byte_none line c.args.at (sym c.byte.ensures ∙ c.in_default.is));
      counts = (omega arith, omega arith);
    }

pub returns-then-not-is_text_byte : goal.returns-then-not-is_text_byte
returns-then-not-is_text_byte c =
    let line = c.args.self.now.line.now in
    let (l, b) = byte_here line c.args.at _ (sym c.byte.ensures ∙ c.in-Some.is) in
    record {
      answer =
          λ d at. no_front line c.args.at d at l (ap capital b ∙ sym c.is_capital.ensures ∙ c.if-is_capital.false) (ap text_byte b ∙ sym c.is_text_byte.ensures ∙ c.if-not-is_text_byte.true);
      counts = (omega arith, omega arith);
    }
