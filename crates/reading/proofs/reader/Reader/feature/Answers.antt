use Rattle.std.proofs.Common.{sym, ap, ◌∙◌}
use Rattle.std.proofs.lemmas.Result.{err_from_is_err_and}
use Rattle.std.proofs.lemmas.Bool.{le-leb}
use Rattle.declarations.specs.Names.{letter}
use Rattle.reading.proofs.Featuring.{no_byte, no_letter, feature_long, feature_lawful, feature_here}
use Rattle.reading.proofs.Marking.{byte_here, byte_none}
use Rattle.reading.proofs.Spanning.{spans_join}
use Rattle.reading.proofs.reader.Reader.feature.Goals as goal

pub returns-in_default : goal.returns-in_default
returns-in_default c =
    let line = c.args.self.now.line.now in
    λ d at. no_byte line c.args.at d at (byte_none line c.args.at (sym c.byte.ensures ∙ c.in_default.is)) c.requires

pub returns-then-not-is_letter : goal.returns-then-not-is_letter
returns-then-not-is_letter c =
    let line = c.args.self.now.line.now in
    let (l, b) = byte_here line c.args.at _ (sym c.byte.ensures ∙ c.in-Some.is) in
    λ d at. no_letter line c.args.at d at l (ap letter b ∙ sym c.is_letter.ensures ∙ c.if-not-is_letter.true)

pub returns-in_err-word : goal.returns-in_err-word
returns-in_err-word c =
    let line = c.args.self.now.line.now in
    let p = err_from_is_err_and c.from_residual.result c.from_residual.ensures.1 in
    let (l, b) = byte_here line c.args.at _ (sym c.byte.ensures ∙ c.in-Some.is) in
    let head = ap letter b ∙ sym c.is_letter.ensures ∙ c.if-not-is_letter.false in
    let (w, g, long, r) = c.in_err-word.ensures in
    rw (p.1, p.2) (λ d at. feature_long line c.args.at d at w l head g _ long r)

pub returns-in_err-arrow : goal.returns-in_err-arrow
returns-in_err-arrow c =
    let line = c.args.self.now.line.now in
    let p = err_from_is_err_and c.from_residual-in_err-arrow.result c.from_residual-in_err-arrow.ensures.1 in
    let (l, b) = byte_here line c.args.at _ (sym c.byte.ensures ∙ c.in-Some.is) in
    let head = ap letter b ∙ sym c.is_letter.ensures ∙ c.if-not-is_letter.false in
    let (token, short) = c.in_ok-word.ensures in
    let (g, place) = token in
    rw (p.1, p.2) (λ d at. c.in_err-arrow.ensures _ d (feature_here line c.args.at d at _ l head g short) g.stop)

pub returns : goal.returns
returns c =
    let line = c.args.self.now.line.now in
    let (l, b) = byte_here line c.args.at _ (sym c.byte.ensures ∙ c.in-Some.is) in
    let head = ap letter b ∙ sym c.is_letter.ensures ∙ c.if-not-is_letter.false in
    let (token, short) = c.in_ok-word.ensures in
    let (g, place) = token in
    λ d at.
    let (arrow, begins) = c.in_ok-arrow.ensures _ d (feature_here line c.args.at d at _ l head g short) g.stop in
    (feature_lawful line c.args.at d at _ l head g, le-leb _ 24 short, place, spans_join g.spans arrow, begins)
