use Rattle.std.proofs.Common.{◌≡◌, ◌+◌, ◌-◌, length, refl, sym, ◌∙◌, arith, ap, Err}
use Rattle.cases.specs.Machines.{state_in}
use Rattle.cases.proofs.Stepping.{step_keeps, present_uses}
use Rattle.cases.proofs.Running.{no_turns, turn_over, stepped, clashed}
use Rattle.cases.proofs.store.pairs.steps.machine.run.Goals as goal

pub returns-in-None-advance-clause-answer : goal.returns-in-None-advance-clause-answer
returns-in-None-advance-clause-answer g c =
    sym c.loop-turn.invariant.left ∙ clashed _ _ _ _ _ _ c.loop-turn-test.true _ _ c.in-Some.ensures c.in-None-advance.ensures.machine ∙ ap Err (sym c.number.ensures)

pub returns-in-None-clause-answer : goal.returns-in-None-clause-answer
returns-in-None-clause-answer g c =
    sym c.loop-turn.invariant.left ∙ turn_over _ _ _ _ _ _ c.loop-turn-test.true _ c.in-None.ensures

pub loop-turn-preserved : goal.loop-turn-preserved
loop-turn-preserved g c =
    let n = c.in-Some-advance in
    record {
      set = n.ensures.bounds.0;
      used = omega (arith, n.ensures.bounds.1, c.loop-turn.invariant.used);
      left = sym (stepped _ _ _ _ _ _ c.loop-turn-test.true _ _ c.in-Some.ensures _ n.ensures.machine) ∙ c.loop-turn.invariant.left;
      inside = λ k x.
          let (y, past) = c.loop-turn.invariant.inside k x in
          step_keeps _ k _ _ _ (state_in c.args.features c.loop-turn.cells c.loop-turn.slots c.loop-turn.registers c.loop-turn.progress) _ _ y _ _ past _ _ (sym c.in-Some.ensures) n.ensures.machine;
    }

pub returns-clause-answer : goal.returns-clause-answer
returns-clause-answer g c =
    let e : length c.args.reads.now + length c.args.writes.now - c.loop-turn.turn ≡ 0 = omega arith in
    sym c.loop-turn.invariant.left ∙ no_turns _ _ _ _ _ _ e

pub returns-in-None-advance-clause-beyond : goal.returns-in-None-advance-clause-beyond
returns-in-None-advance-clause-beyond g c n clash x =
    let (y, past) = c.loop-turn.invariant.inside n x in
    let uses = present_uses _ _ _ y.codes _ _ _ (sym c.in-Some.ensures) in
    let more = c.in-None-advance.ensures.beyond n refl uses y.state in
    (more.0 ∙ past.0, more.1 ∙ past.1)
