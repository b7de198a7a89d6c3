use Rattle.cases.proofs.Cells.{put_refers_past, put_refers_at}
use Rattle.cases.proofs.store.refer.Goals as goal

pub returns-then-cell-cells : goal.returns-then-cell-cells
returns-then-cell-cells g c top = put_refers_at top _ _ _ c.if-cell-cells.true _

pub returns-else-cell-cells : goal.returns-else-cell-cells
returns-else-cell-cells g c top = put_refers_past top _ _ _ c.if-cell-cells.false
