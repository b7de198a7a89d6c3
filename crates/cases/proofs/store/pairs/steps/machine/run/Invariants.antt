use Rattle.std.proofs.Common.{◌≡◌, ℕ, ◌+◌, ◌-◌, ◌≤◌, length}
use Rattle.instructions.specs.Steps.{run}
use Rattle.cases.specs.Machines.{machine_in, RunsWithin}
use Rattle.cases.specs.Within.{Beyond}
use Rattle.cases.proofs.store.pairs.steps.machine.run.Given as goal

abbrev pub invariant-loop-turn : goal.invariant-loop-turn
invariant-loop-turn g l = record {
  set : l.progress.set ≤ length l.registers;
  used : l.progress.used ≤ l.fn.begin.used + l.turn;
  left : run (g.O.Order.meaning l.order) l.kinds l.reads l.writes (l.turns - l.turn) (machine_in l.features l.cells l.slots l.registers l.progress)
      ≡ run (g.O.Order.meaning l.order) l.kinds l.reads l.writes l.turns (machine_in l.features l.fn.cells l.fn.slots l.fn.registers l.fn.begin);
  inside : (n : ℕ) → RunsWithin (g.O.Order.meaning l.order) n l.reads l.writes (machine_in l.features l.fn.cells l.fn.slots l.fn.registers l.fn.begin)
      → RunsWithin (g.O.Order.meaning l.order) n l.reads l.writes (machine_in l.features l.cells l.slots l.registers l.progress)
      × Beyond n l.features l.fn.cells l.fn.slots l.cells l.slots;
}
