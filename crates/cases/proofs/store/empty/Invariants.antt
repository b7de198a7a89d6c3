use Rattle.std.proofs.Common.{◌≡◌, ◌*◌}
use Rattle.joining.specs.Heap.{emptied}
use Rattle.cases.proofs.store.empty.Given as goal

abbrev pub invariant-loop-feature : goal.invariant-loop-feature
invariant-loop-feature l = l.slots ≡ emptied l.initial.slots (l.cell * l.features) l.feature
