use Rattle.cases.proofs.Going.{law_of_opened}
use Rattle.cases.proofs.store.opens.open.Goals as goal

pub returns-clause-law : goal.returns-clause-law
returns-clause-law g c = law_of_opened _ c.args.count c.args.features c.args.cells.now _ c.args.slots.now _ _ _ c.prepare.ensures.answer c.prepare.ensures.kept
