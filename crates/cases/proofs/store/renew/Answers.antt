use Rattle.cases.proofs.Cells.{put_new_past, put_new_at}
use Rattle.cases.proofs.store.renew.Goals as goal

pub returns-then-cell-cells : goal.returns-then-cell-cells
returns-then-cell-cells g c = put_new_at _ _ _ _ c.widest.ensures

pub returns-else-cell-cells : goal.returns-else-cell-cells
returns-else-cell-cells g c = put_new_past _ _ _ c.if-cell-cells.false
