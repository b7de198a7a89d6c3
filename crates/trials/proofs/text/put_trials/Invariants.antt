use Rattle.std.proofs.Common.{◌≡◌, ◌++◌, drop, vec_items}
use Rattle.trials.specs.Shown.{trials_shown}
use Rattle.trials.proofs.text.put_trials.Given as goal

-- what is shown and what is left make the whole
abbrev pub invariant-loop-trial : goal.invariant-loop-trial
invariant-loop-trial g l =
    let m = g.O.WrittenOrder.texts l.order in
    vec_items l.text ++ trials_shown m (drop l.trial-index l.trials) ≡ vec_items l.initial.text ++ trials_shown m l.trials
