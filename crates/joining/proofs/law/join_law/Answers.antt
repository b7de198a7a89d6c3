use Rattle.joining.proofs.Join.{join_law}
use Rattle.joining.proofs.law.join_law.Goals as goal

pub returns : goal.returns
returns g c = join_law g.row.T.Denot (g.O.Order.meaning c.args.order.now)
