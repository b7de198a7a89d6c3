use Rattle.std.proofs.Common.{vec_items, arith, ◌∙◌}
use Rattle.trials.proofs.Noting.{tried_more, tried_last}
use Rattle.trials.proofs.memory.Memory.try_rules.Goals as goal

pub loop-index-preserved : goal.loop-index-preserved
loop-index-preserved g c =
    let (stands, room, capacity, same, so_far) = c.loop-index.invariant in
    let tried = c.try_rule-outcome.ensures in (
      tried.left.stands,
      omega (arith, room, c.push_reserved.ensures.capacity),
      omega (arith, c.push_reserved.ensures.capacity, capacity),
      tried.features ∙ same,
      tried_more (g.O.Order.meaning c.args.order.now) c.args.self.now.features c.args.entry c.args.root c.args.rules.now c.loop-index.index
          c.args.self.now c.loop-index.self c.try_rule-outcome.new.self same
          (vec_items c.args.trials.now) (vec_items c.loop-index.trials) (vec_items c.push_reserved.new.self)
          c.index-rules-index.result c.try_rule-outcome.result (omega arith) c.index-rules-index.is tried.outcome tried.left c.push_reserved.ensures.items so_far,
    )

pub returns-clause-trials : goal.returns-clause-trials
returns-clause-trials g c =
    tried_last (g.O.Order.meaning c.args.order.now) c.args.self.now.features c.args.entry c.args.root c.args.rules.now c.loop-index.index
    c.args.self.now c.loop-index.self (vec_items c.args.trials.now) (vec_items c.loop-index.trials) (omega arith) c.loop-index.invariant.4
