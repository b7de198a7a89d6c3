use Rattle.osf.proofs.Running as running
use Rattle.osf.proofs.Remaining.{memory_of_runs}
use Rattle.osf.proofs.law.law_of_runs.Goals as goal

pub returns-clause-law : goal.returns-clause-law
returns-clause-law g c = running.law_of_runs (g.O.Order.meaning c.args.order.now) g.row.T.Denot

pub returns-clause-memory : goal.returns-clause-memory
returns-clause-memory g c = memory_of_runs (g.O.Order.meaning c.args.order.now)
