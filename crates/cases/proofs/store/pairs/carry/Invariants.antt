use Rattle.std.proofs.Common.{◌≡◌, ◌≤◌}
use Rattle.joining.specs.Joining.{carry}
use Rattle.cases.specs.Memory.{held}
use Rattle.cases.proofs.store.pairs.carry.Given as goal

abbrev pub invariant-loop-feature : goal.invariant-loop-feature
invariant-loop-feature l =
    (l.count ≤ l.room)
    × (held l.slots l.pending l.count ≡ carry l.room l.features l.first l.second l.feature (held l.initial.slots l.initial.pending l.fn.count))
