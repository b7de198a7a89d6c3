use Rattle.std.proofs.Common.{◌≡◌, take}
use Rattle.joining.specs.Heap.{new_cells}
use Rattle.cases.proofs.store.opens.renew_all.Given as goal

abbrev pub invariant-loop-index : goal.invariant-loop-index
invariant-loop-index g l = take l.index l.cells ≡ new_cells l.kind l.index
