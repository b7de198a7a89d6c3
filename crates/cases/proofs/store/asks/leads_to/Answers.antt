use Rattle.cases.proofs.Going.{law_feature_asked}
use Rattle.cases.proofs.store.asks.leads_to.Goals as goal

pub returns-then-cell-case-clause-law : goal.returns-then-cell-case-clause-law
returns-then-cell-case-clause-law g c = law_feature_asked _ _ c.args.cell c.args.feature _

pub returns-then-feature-case-clause-law : goal.returns-then-feature-case-clause-law
returns-then-feature-case-clause-law g c = law_feature_asked _ _ c.args.cell c.args.feature _

pub returns-in-Some-slot-clause-law : goal.returns-in-Some-slot-clause-law
returns-in-Some-slot-clause-law g c = law_feature_asked _ _ c.args.cell c.args.feature _

pub returns-in-None-slot-clause-law : goal.returns-in-None-slot-clause-law
returns-in-None-slot-clause-law g c = law_feature_asked _ _ c.args.cell c.args.feature _

pub returns-in-None-clause-law : goal.returns-in-None-clause-law
returns-in-None-clause-law g c = law_feature_asked _ _ c.args.cell c.args.feature _
