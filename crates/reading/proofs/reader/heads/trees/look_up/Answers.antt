use Rattle.std.proofs.Common.{◌<◌, true, length, sym, ◌∙◌, subst, rules}
use Rattle.features.specs.Model.{feature_names}
use Rattle.reading.specs.Reading.{LooksUp}
use Rattle.reading.proofs.Looking.{looked_up, not_found}
use Rattle.reading.proofs.reader.heads.trees.look_up.Goals as goal

pub returns-in-Some : goal.returns-in-Some
returns-in-Some c =
    let l : c.in-Some.feature < length c.args.seen = search rules in
    λ words s.
    let F = feature_names c.args.features.now in
    subst (LooksUp F words c.args.word.now) (sym c.known.ensures) (looked_up F words c.args.seen s c.args.word.now c.in-Some.feature (sym c.find.ensures.answer ∙ c.in-Some.is) l)

pub returns-in-None : goal.returns-in-None
returns-in-None c =
    λ words s.
    let F = feature_names c.args.features.now in
    subst (LooksUp F words c.args.word.now) (sym c.unknown.ensures)
    (subst (λ n. LooksUp F words c.args.word.now (record { feature = n; wrong = true; seen = c.args.seen })) (sym c.len.ensures.answer)
    (not_found F words c.args.seen s c.args.word.now (sym c.find.ensures.answer ∙ c.in-None.is)))
