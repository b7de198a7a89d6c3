use Rattle.std.proofs.Common.{◌≡◌, ◌-◌, length}
use Rattle.joining.specs.Heap.{follow, refers_in}
use Rattle.cases.proofs.store.end.Given as goal

abbrev pub invariant-loop-i : goal.invariant-loop-i
invariant-loop-i g l =
    (top : _) → follow (refers_in top l.cells) (length l.cells - l.i) l.at ≡ follow (refers_in top l.cells) (length l.cells) l.cell
