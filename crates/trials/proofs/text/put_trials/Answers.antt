use Rattle.std.proofs.Common.{vec_items, arith}
use Rattle.trials.proofs.Showing.{shown_more, shown_last}
use Rattle.trials.proofs.text.put_trials.Goals as goal

pub loop-trial-preserved : goal.loop-trial-preserved
loop-trial-preserved g c =
    shown_more (g.O.WrittenOrder.texts c.args.order.now) c.args.trials.now c.loop-trial.trial-index c.trial-item.result (vec_items c.loop-trial.text) (vec_items c.put_line.new.text) _
    (omega arith) c.trial-item.is c.in_ok-put_line.ensures c.loop-trial.invariant

pub returns : goal.returns
returns g c = shown_last (g.O.WrittenOrder.texts c.args.order.now) c.args.trials.now c.loop-trial.trial-index (vec_items c.loop-trial.text) _ (omega arith) c.loop-trial.invariant
