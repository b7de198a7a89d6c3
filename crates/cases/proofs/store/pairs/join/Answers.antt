use Rattle.std.proofs.Common.{◌≤◌, length, arith}
use Rattle.std.proofs.lemmas.List.{length-set}
use Rattle.cases.specs.Memory.{heap_in}
use Rattle.cases.proofs.Turns.{turn_first, turn_none, turn_last, turn_more, turn_clash}
use Rattle.cases.proofs.Keeping.{begins, turn_keeps, clash_keeps}
use Rattle.cases.proofs.store.pairs.join.Goals as goal

pub loop-turn-init : goal.loop-turn-init
loop-turn-init g c = record {
  within = omega arith;
  left = λ used. turn_first _ _ _ c.args.pending.now _ (omega (arith, c.requires));
  begun = λ n a b x. begins _ n _ _ _ c.args.pending.now _ (omega (arith, c.requires)) a b x;
}

pub returns-then-count-eq0 : goal.returns-then-count-eq0
returns-then-count-eq0 g c = record {
  answer = λ used. turn_none _ _ _ _ _ _ _ _ _ _ (c.loop-turn.invariant.left used) c.if-count-eq0.true;
  beyond = λ n a b x. (c.loop-turn.invariant.begun n a b x).beyond;
}

pub returns-in-None : goal.returns-in-None
returns-in-None g c =
    let fits : c.loop-turn.count ≤ length c.loop-turn.pending = omega (arith, c.requires, c.loop-turn.invariant.within, c.loop-turn.auto.pending, length-set c.args.pending.now 0 (c.args.first, c.args.second)) in
    record {
      answer = λ used. turn_clash _ _ _ _ _ _ _ _ _ _ (c.loop-turn.invariant.left used) c.if-count-eq0.false fits c.loop-turn-test.true (c.in-None.ensures used).0;
      beyond = λ n a b x. clash_keeps _ n _ _ _ c.loop-turn.cells c.loop-turn.slots c.loop-turn.pending c.loop-turn.count (c.loop-turn.invariant.begun n a b x) (heap_in 0 c.args.features c.join_pair.new.cells c.join_pair.new.slots) ((c.in-None.ensures 0).1 0);
    }

pub loop-turn-preserved : goal.loop-turn-preserved
loop-turn-preserved g c =
    let fits : c.loop-turn.count ≤ length c.loop-turn.pending = omega (arith, c.requires, c.loop-turn.invariant.within, c.loop-turn.auto.pending, length-set c.args.pending.now 0 (c.args.first, c.args.second)) in
    record {
      within = (c.in-Some.ensures 0).0;
      left = λ used. turn_more _ _ _ _ _ _ _ _ _ _ (c.loop-turn.invariant.left used) c.if-count-eq0.false fits c.loop-turn-test.true _ (c.in-Some.ensures used).1;
      begun = λ n a b x. turn_keeps _ n _ _ _ c.loop-turn.cells c.loop-turn.slots c.loop-turn.pending c.loop-turn.count (c.loop-turn.invariant.begun n a b x) c.if-count-eq0.false fits _ _ (c.in-Some.ensures 0).1;
    }

pub returns : goal.returns
returns g c = record {
  answer = λ used. turn_last _ _ _ _ _ _ c.loop-turn.pending c.loop-turn.count _ _ (c.loop-turn.invariant.left used) c.loop-turn-test.false;
  beyond = λ n a b x. (c.loop-turn.invariant.begun n a b x).beyond;
}
