use Rattle.std.proofs.Common.{◌≡◌, ◌+◌, ◌-◌, ◌≤◌, ◌++◌, replicate, vec_items, vec_len, vec_capacity}
use Rattle.trials.specs.declared.trial.Outcome.TheVariants.{Refused}
use Rattle.trials.specs.Trials.{numbered}
use Rattle.trials.proofs.memory.calls.rules.refuse_rules.Given as goal

-- what is noted and the refusals that are left make the whole
abbrev pub invariant-loop-index : goal.invariant-loop-index
invariant-loop-index g l =
    (vec_len l.trials + (l.rules - l.index) ≤ vec_capacity l.trials)
    × (vec_capacity l.trials ≡ vec_capacity l.initial.trials)
    × (vec_items l.trials ++ numbered l.entry (l.index + 1) (replicate (l.rules - l.index) (Refused l.refusal))
    ≡ vec_items l.initial.trials ++ numbered l.entry 1 (replicate l.rules (Refused l.refusal)))
