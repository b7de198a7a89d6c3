use Rattle.std.proofs.Common.{vec_items}
use Rattle.trials.proofs.Counting.{counted_if}
use Rattle.trials.proofs.memory.calls.rules.entries.try_all.Goals as goal

pub returns-clause-count : goal.returns-clause-count
returns-clause-count g c = counted_if (g.O.Order.meaning c.args.order.now) c.args.features c.args.entries.now c.args.rules.now vec_items _ c.all_trials.ensures
