use Rattle.std.proofs.Common.{◌≡◌, ◌<◌, length, ap, sym, refl, ◌∙◌, arith}
use Rattle.std.proofs.lemmas.Bool.{eqb-true, eqb-false, leb-true, leb-false}
use Rattle.grammar.specs.declared.statement.Statement.TheVariants.{Kind}
use Rattle.grammar.specs.Told.{say}
use Rattle.reading.specs.Notes.{noted, part}
use Rattle.reading.proofs.Describing.{no_text, text-lawful, no_list, too_deep, open_list}
use Rattle.reading.proofs.Spanning.{spans-part}
use Rattle.reading.proofs.reader.Reader.body.Goals as goal
use Rattle.reading.proofs.reader.Reader.body.Goals.{After-mark}

-- what is said of the kind text
told : (c : After-mark) → noted c.args.self.now.line.now c.say_kind.new.self ≡ say (Kind c.args.variable c.word-text.result.text.now) c.args.at (noted c.args.self.now.line.now c.args.notes.now)
told c =
    let line = c.args.self.now.line.now in
    let w = c.word-text.result.text.now in
    let (g, place) = c.word-text.ensures in
    c.say_kind.ensures.told line
    ∙ ap (λ n. say (Kind c.args.variable (part line (record { place = n; len = length w }))) n (noted line c.args.notes.now)) place
    ∙ ap (λ x. say (Kind c.args.variable x) c.args.at (noted line c.args.notes.now)) (spans-part line c.args.at _ w g.spans)

some : (c : After-mark) → 0 < length c.word-text.result.text.now
some c = omega (arith, eqb-false _ 0 (sym c.if-is_empty.ensures))

pub returns-then-is_empty : goal.returns-then-is_empty
returns-then-is_empty c =
    let (g, place) = c.word-text.ensures in
    record {
      answer = λ k. no_text c.args.self.now.line.now c.args.at c.args.depth _ k g c.requires.0 (eqb-true _ 0 (sym c.if-is_empty.ensures));
      counts = (refl, omega arith);
    }

pub returns-then-is_deepest : goal.returns-then-is_deepest
returns-then-is_deepest c =
    let d = (goal.at.returns-then-is_deepest c).After-mark in
    let (g, place) = c.word-text.ensures in
    record {
      answer =
          λ k. too_deep c.args.self.now.line.now c.args.at c.args.depth _ k g (some d) (sym c.mark.ensures ∙ c.in-Open.is) (leb-true _ _ (sym c.if-is_deepest.ensures));
      counts = (c.say_kind.ensures.counts.0, omega arith);
    }

pub returns-else-is_deepest : goal.returns-else-is_deepest
returns-else-is_deepest c =
    let d = (goal.at.returns-else-is_deepest c).After-mark in
    let line = c.args.self.now.line.now in
    let (g, place) = c.word-text.ensures in
    record {
      answer =
          λ k.
          let (bytes, at, few) = open_list line c.args.at c.args.depth _ k g (some d) (sym c.mark.ensures ∙ c.in-Open.is) (leb-false _ _ (sym c.if-is_deepest.ensures)) in
          (_, text-lawful line c.args.at c.args.depth _ k g (some d), g.spans, bytes, at, few, told d);
      counts = (c.say_kind.ensures.counts.0, omega arith);
    }

pub returns-in_default : goal.returns-in_default
returns-in_default c =
    let d = (goal.at.returns-in_default c).After-mark in
    let line = c.args.self.now.line.now in
    let (g, place) = c.word-text.ensures in
    record {
      answer =
          λ k. (
            _,
            text-lawful line c.args.at c.args.depth _ k g (some d),
            g.spans,
            no_list line c.args.at c.args.depth _ k g (some d) (λ e. c.in_default.not-Open (c.mark.ensures ∙ e)),
            told d,
          );
      counts = (c.say_kind.ensures.counts.0, omega arith);
    }
