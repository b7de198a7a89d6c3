use Rattle.std.proofs.Common.{◌≡◌, ◌+◌, ◌-◌, ◌*◌, ◌≤◌, ◌++◌, map, length, drop, vec_items, vec_len, vec_capacity}
use Rattle.compiler.specs.Views.{statements_in}
use Rattle.compiler.specs.Entries.{room_of}
use Rattle.compiler.specs.Rules.{statements_of}
use Rattle.trials.specs.Trials.{trials_from}
use Rattle.trials.proofs.memory.Memory.try_entries.Given as goal

-- what is noted and the trials of the entries that are left make the whole
abbrev pub invariant-loop-index : goal.invariant-loop-index
invariant-loop-index g l =
    let m = g.O.Order.meaning l.order in
    let features = l.initial.self.features in
    let rules = map statements_of l.rules in
    (599 ≤ room_of l.entry)
    × (vec_len l.trials + (length l.entries - l.index) * length l.rules ≤ vec_capacity l.trials)
    × (l.self.features ≡ features)
    × (vec_items l.trials ++ trials_from m features (l.index + 1) (map statements_in (drop l.index l.entries)) rules
    ≡ vec_items l.initial.trials ++ trials_from m features 1 (map statements_in l.entries) rules)
