use Rattle.instructions.proofs.Obeying.{codes_law}
use Rattle.instructions.proofs.law.codes_law.Goals as goal

pub returns : goal.returns
returns g c = codes_law (g.O.Order.meaning c.args.order.now)
