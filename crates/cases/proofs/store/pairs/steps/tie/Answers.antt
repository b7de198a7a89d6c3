use Rattle.std.proofs.Common.{sym}
use Rattle.cases.proofs.Stating.{tied_none, tied_some}
use Rattle.cases.proofs.store.pairs.steps.tie.Goals as goal

pub returns-in-Some-clause-answer : goal.returns-in-Some-clause-answer
returns-in-Some-clause-answer g c used places = tied_some _ _ _ _ _ _ _ c.in-Some.ensures _ _ (c.join.ensures.answer used)

pub returns-in-Some-clause-beyond : goal.returns-in-Some-clause-beyond
returns-in-Some-clause-beyond g c n clash at feature cell x = c.join.ensures.beyond n (x.leads c.args.at c.args.feature _ at feature (sym c.in-Some.ensures)) cell x

pub returns-in-None-clause-answer : goal.returns-in-None-clause-answer
returns-in-None-clause-answer g c used places = tied_none _ _ _ _ _ _ c.in-None.ensures _ c.fill.ensures
