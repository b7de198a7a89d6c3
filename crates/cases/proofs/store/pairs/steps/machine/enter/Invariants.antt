use Rattle.std.proofs.Common.{◌≡◌, ◌+◌, ◌≤◌, length, drop}
use Rattle.instructions.specs.Steps.{entered}
use Rattle.cases.specs.Machines.{state_in}
use Rattle.cases.proofs.store.pairs.steps.machine.enter.Given as goal

abbrev pub invariant-loop-instruction : goal.invariant-loop-instruction
invariant-loop-instruction g l = record {
  set : l.progress.set ≤ length l.registers;
  used : l.progress.used ≤ l.fn.begin.used + l.instruction-index;
  left : entered (g.O.Order.meaning l.order) l.kinds (drop l.instruction-index l.code) (state_in l.features l.cells l.slots l.registers l.progress)
      ≡ entered (g.O.Order.meaning l.order) l.kinds l.code (state_in l.features l.fn.cells l.fn.slots l.fn.registers l.fn.begin);
}
