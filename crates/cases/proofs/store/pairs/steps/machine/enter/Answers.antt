use Rattle.std.proofs.Common.{arith}
use Rattle.instructions.specs.declared.instruction.Instruction.TheVariants.{PushCell}
use Rattle.cases.specs.Machines.{state_in}
use Rattle.cases.proofs.Running.{entered_more, entered_all}
use Rattle.cases.proofs.store.pairs.steps.machine.enter.Goals as goal

pub loop-instruction-preserved : goal.loop-instruction-preserved
loop-instruction-preserved g c =
    let w = c.write-progress in
    record {
      set = w.ensures.set;
      used = omega (arith, w.ensures.used, c.loop-instruction.invariant.used);
      left =
          entered_more _ _ c.args.code.now c.loop-instruction.instruction-index (PushCell 0) _
          (state_in c.args.features w.new.cells w.new.slots w.new.registers w.result) _ c.loop-instruction-test.true w.ensures.state c.loop-instruction.invariant.left;
    }

pub returns-clause-answer : goal.returns-clause-answer
returns-clause-answer g c = entered_all _ _ _ _ _ _ c.loop-instruction-test.false c.loop-instruction.invariant.left
