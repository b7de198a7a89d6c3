use Rattle.cases.proofs.Stating.{narrowed_some, narrowed_none}
use Rattle.cases.proofs.store.pairs.steps.narrow.Goals as goal

pub returns-in-Some-clause-answer : goal.returns-in-Some-clause-answer
returns-in-Some-clause-answer g c used features slots places = narrowed_some _ _ _ _ _ _ c.kind.ensures c.in-Some.ensures _ (c.set_kind.ensures _)

pub returns-in-None-clause-answer : goal.returns-in-None-clause-answer
returns-in-None-clause-answer g c used features slots places = narrowed_none _ _ _ _ _ c.kind.ensures c.in-None.ensures
