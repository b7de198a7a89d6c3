use Rattle.cases.proofs.Cells.{put_kind_past, put_kind_at}
use Rattle.cases.proofs.store.set_kind.Goals as goal

pub returns-then-cell-cells : goal.returns-then-cell-cells
returns-then-cell-cells g c top = put_kind_at top _ _ _ c.if-cell-cells.true _

pub returns-else-cell-cells : goal.returns-else-cell-cells
returns-else-cell-cells g c top = put_kind_past top _ _ _ c.if-cell-cells.false
