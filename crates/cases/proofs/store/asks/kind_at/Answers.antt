use Rattle.cases.proofs.Going.{law_kind_asked}
use Rattle.cases.proofs.store.asks.kind_at.Goals as goal

pub returns-then-cell-case-clause-law : goal.returns-then-cell-case-clause-law
returns-then-cell-case-clause-law g c = law_kind_asked _ _ c.args.cell _

pub returns-else-cell-case-clause-law : goal.returns-else-cell-case-clause-law
returns-else-cell-case-clause-law g c = law_kind_asked _ _ c.args.cell _

pub returns-in-None-clause-law : goal.returns-in-None-clause-law
returns-in-None-clause-law g c = law_kind_asked _ _ c.args.cell _
