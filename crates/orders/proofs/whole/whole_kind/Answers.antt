use Rattle.std.proofs.Common.{rules}
use Rattle.orders.proofs.Wholes.{kind_read}
use Rattle.orders.proofs.whole.whole_kind.Goals as goal

pub returns : goal.returns
returns g c =
    kind_read (g.O.WrittenOrder.texts c.args.order.now) c.args.text.now c.then_some.result c.in_ok-kind.kind c.in_ok-kind.taken
    (search rules) c.in_ok-kind.ensures.read_back c.in_ok-kind.ensures.taken
