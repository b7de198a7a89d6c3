use Rattle.terms.proofs.WithKinds.{its_statement, read_more}
use Rattle.terms.proofs.term.kinds.first_wrong.Goals as goal

pub loop-said-preserved : goal.loop-said-preserved
loop-said-preserved g c =
    let m = g.O.WrittenOrder.texts c.args.order.now in
    let (us, read) = c.loop-said.invariant in
    let (u, o) = its_statement m _ _ c.with_kind.ensures c.if-is_none.ensures in
    (_, read_more m c.args.line.now c.args.noted.now _ c.loop-said.said-index c.loop-said-test.true us u read o)
