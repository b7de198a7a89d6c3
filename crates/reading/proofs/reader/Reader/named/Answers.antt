use Rattle.std.proofs.Common.{◌≡◌, length, Some, sym, ap, ◌∙◌, arith}
use Rattle.std.proofs.lemmas.Result.{err_from_is_err_and}
use Rattle.reading.specs.Notes.{noted, part}
use Rattle.reading.proofs.Naming.{name-long, name-lawful, name-ends, name-colon}
use Rattle.reading.proofs.Noting.{name-number, name-told, name_marked}
use Rattle.reading.proofs.Spanning.{spans-part}
use Rattle.reading.proofs.reader.Reader.named.Goals as goal

pub returns-in_err-name : goal.returns-in_err-name
returns-in_err-name c =
    let p = err_from_is_err_and c.from_residual.result c.from_residual.ensures.1 in
    let line = c.args.self.now.line.now in
    let (w, g, l, r) = c.in_err-name.ensures in
    rw (p.1, p.2)
    (record {
      answer = λ d at. name-long line c.args.at d w at c.requires.0 c.requires.1.0 g _ l r;
      counts = (omega arith, omega arith);
    })

pub returns-in-Colon : goal.returns-in-Colon
returns-in-Colon c =
    let line = c.args.self.now.line.now in
    let i = c.args.at in
    let w = c.in_ok-name.name.text.now in
    let (token, short) = c.in_ok-name.ensures in
    let (g, place) = token in
    let p : part line c.span.result ≡ w = ap (part line) c.span.ensures ∙ ap (λ n. part line (record { place = n; len = length w })) place ∙ spans-part line i _ w g.spans in
    let t0 = noted line c.args.notes.now in
    let met = c.meet-found.ensures.told in
    let said = c.say_link.ensures.told line in
    let (number, known) = c.meet-found.ensures.answer in
    record {
      answer =
          λ d at.
          let (spans, kind) = name-colon line i d w at c.requires.0 c.requires.1.0 g short (sym c.mark.ensures ∙ c.in-Colon.is) in (
            c.requires.0,
            Some w,
            name-lawful line i d w at c.requires.0 c.requires.1.0 g short,
            spans,
            kind,
            name-number c.args.from _ _ _ w p t0 _ _ met said number known,
            name_marked c.args.from _ _ _ w p t0 _ _ met said number known i _ (c.describe.ensures.told line),
          );
      counts = (omega arith, omega arith);
    }

pub returns-in_default : goal.returns-in_default
returns-in_default c =
    let line = c.args.self.now.line.now in
    let i = c.args.at in
    let w = c.in_ok-name.name.text.now in
    let (token, short) = c.in_ok-name.ensures in
    let (g, place) = token in
    let p : part line c.span.result ≡ w = ap (part line) c.span.ensures ∙ ap (λ n. part line (record { place = n; len = length w })) place ∙ spans-part line i _ w g.spans in
    let t0 = noted line c.args.notes.now in
    let met = c.meet-found.ensures.told in
    let said = c.say_link.ensures.told line in
    let (number, known) = c.meet-found.ensures.answer in
    record {
      answer =
          λ d at. (
            c.requires.0,
            w,
            name-lawful line i d w at c.requires.0 c.requires.1.0 g short,
            g.spans,
            name-ends line i d w at c.requires.0 c.requires.1.0 g short (λ e. c.in_default.not-Colon (c.mark.ensures ∙ e)),
            name-told c.args.from _ _ _ w p t0 _ _ met said number known,
          );
      counts = (omega arith, omega arith);
    }
