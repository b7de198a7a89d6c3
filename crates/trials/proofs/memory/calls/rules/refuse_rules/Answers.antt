use Rattle.std.proofs.Common.{vec_items, arith}
use Rattle.trials.proofs.Noting.{refused_more, refused_last}
use Rattle.trials.proofs.memory.calls.rules.refuse_rules.Goals as goal

pub loop-index-preserved : goal.loop-index-preserved
loop-index-preserved g c =
    let (room, capacity, so_far) = c.loop-index.invariant in (
      omega (arith, room, c.push_reserved.ensures.capacity),
      omega (arith, c.push_reserved.ensures.capacity, capacity),
      refused_more c.args.entry c.args.refusal c.args.rules c.loop-index.index (vec_items c.args.trials.now) (vec_items c.loop-index.trials) (vec_items c.push_reserved.new.self)
          (omega arith) c.push_reserved.ensures.items so_far,
    )

pub returns-clause-trials : goal.returns-clause-trials
returns-clause-trials g c =
    refused_last c.args.entry c.args.refusal c.args.rules c.loop-index.index (vec_items c.args.trials.now) (vec_items c.loop-index.trials) (omega arith) c.loop-index.invariant.2
