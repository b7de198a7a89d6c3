use Rattle.std.proofs.Common.{◌<◌, length, is_some, sym, refl, ◌∙◌, arith}
use Rattle.std.proofs.lemmas.List.{length-map}
use Rattle.features.specs.Model.{feature_names}
use Rattle.features.proofs.Declaring.{refuses_long, refuses_grammar, refuses_known, line_accepted, name_is, not_whole, is_whole, name_read}
use Rattle.features.proofs.table.Features.read.Goals as goal

pub returns-in_default : goal.returns-in_default
returns-in_default c =
    let n = c.name_end-end in
    refuses_long c.args.line.now n.result n.ensures (feature_names c.args.self.now) c.in_default.ensures

pub returns-in-Err : goal.returns-in-Err
returns-in-Err c =
    let n = c.name_end-end in
    let F = feature_names c.args.self.now in
    let line = c.args.line.now in
    let (at, is) = not_whole n.result (length line) c.in-Err.refusal (sym c.in-Err.is ∙ c.whole.ensures) in
    rw is (refuses_grammar F line n.result n.ensures c.if-line-gt-LONGEST_LINE.false c.in-Some.name c.in-Some.ensures at)

pub returns : goal.returns
returns c =
    let n = c.name_end-end in
    let F = feature_names c.args.self.now in
    let line = c.args.line.now in
    let few : length F < 16 = grind (arith, length-map) in
    let (some, all) = is_whole n.result (length line) (sym c.in_default-whole.is ∙ c.whole.ensures) in
    let held = c.in-Some.ensures in
    rw c.unless_known.ensures
    (name_read F line c.in-Some.name c.find.result (is_some c.find.result) refl few
    (refuses_known F line n.result n.ensures c.if-line-gt-LONGEST_LINE.false c.in-Some.name held some all few c.find.result c.find.ensures.answer)
    (line_accepted F line n.result n.ensures c.if-line-gt-LONGEST_LINE.false c.in-Some.name held some all few c.find.result c.find.ensures.answer)
    (name_is F line n.result n.ensures c.if-line-gt-LONGEST_LINE.false c.in-Some.name held some all))
