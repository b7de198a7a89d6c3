use Rattle.std.proofs.Common.{sym, ◌∙◌}
use Rattle.cases.proofs.Cells.{kind_past, kind_read}
use Rattle.cases.proofs.store.kind.Goals as goal

pub returns-then-cell-cells : goal.returns-then-cell-cells
returns-then-cell-cells g c = kind_read _ _ _ _ c.if-cell-cells.true

pub returns-else-cell-cells : goal.returns-else-cell-cells
returns-else-cell-cells g c = c.widest.ensures ∙ sym (kind_past _ _ _ c.if-cell-cells.false)
