use Rattle.worked.proofs.Computed.{table}
use Rattle.worked.proofs.table.worked_examples.Goals as goal

pub returns-clause-table : goal.returns-clause-table
returns-clause-table c = table
