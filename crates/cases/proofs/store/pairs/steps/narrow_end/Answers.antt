use Rattle.std.proofs.Common.{rules, subst}
use Rattle.cases.specs.Machines.{Narrows}
use Rattle.cases.proofs.store.pairs.steps.narrow_end.Goals as goal

pub returns-clause-answer : goal.returns-clause-answer
returns-clause-answer g c =
    let m = g.O.Order.meaning c.args.order.now in
    let cells = c.args.cells.now in
    subst (λ e. Narrows m e c.args.kind_wanted cells c.narrow.new.cells c.narrow.result) (search rules) c.narrow.ensures.answer
