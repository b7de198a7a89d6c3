use Rattle.std.proofs.Common.{vec_items, ◌∙◌, arith}
use Rattle.compiler.proofs.Closes.{close_fits, close_more, close_last}
use Rattle.compiler.proofs.codes.rule.close.Goals as goal

pub write_test-requires-clause-room : goal.write_test-requires-clause-room
write_test-requires-clause-room c =
    let now = c.loop-above.writes in
    let first = c.args.writes.now in
    let few = close_fits (vec_items now) (vec_items first) c.loop-above.above _ _ _ c.loop-above-test.true c.loop-above.invariant.0 in
    omega (arith, few, now.ok.0, first.ok.0, c.requires, c.loop-above.invariant.1)

pub loop-above-preserved : goal.loop-above-preserved
loop-above-preserved c =
    let pushed = c.write_test.ensures in (
      close_more _ _ _ c.loop-above.above _ _ _ c.loop-above-test.true pushed.items c.loop-above.invariant.0,
      pushed.capacity ∙ c.loop-above.invariant.1,
    )

pub returns-clause-items : goal.returns-clause-items
returns-clause-items c = close_last _ _ c.loop-above.above _ _ _ c.loop-above-test.false c.loop-above.invariant.0
