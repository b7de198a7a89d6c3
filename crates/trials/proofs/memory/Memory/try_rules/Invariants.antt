use Rattle.std.proofs.Common.{◌≡◌, ◌+◌, ◌-◌, ◌≤◌, ◌++◌, map, length, drop, vec_items, vec_len, vec_capacity}
use Rattle.compiler.specs.Rules.{statements_of}
use Rattle.trials.specs.Trials.{numbered, outcomes_at}
use Rattle.trials.specs.Memory.{heap_in, places_in, Stands}
use Rattle.trials.proofs.memory.Memory.try_rules.Given as goal

-- what is noted and what comes of the rules that are left make the whole
abbrev pub invariant-loop-index : goal.invariant-loop-index
invariant-loop-index g l =
    let m = g.O.Order.meaning l.order in
    let b = l.initial.self in
    let after = l.self in
    Stands m after
    × (vec_len l.trials + (length l.rules - l.index) ≤ vec_capacity l.trials)
    × (vec_capacity l.trials ≡ vec_capacity l.initial.trials)
    × (after.features ≡ b.features)
    × (vec_items l.trials ++ numbered l.entry (l.index + 1) (outcomes_at m b.features l.root (places_in after) (heap_in after) (map statements_of (drop l.index l.rules)))
    ≡ vec_items l.initial.trials ++ numbered l.entry 1 (outcomes_at m b.features l.root (places_in b) (heap_in b) (map statements_of l.rules)))
