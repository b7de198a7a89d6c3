use Rattle.std.proofs.Common.{◌≡◌, ℕ, ◌-◌, length, sym, ap, ◌∙◌, arith}
use Rattle.joining.specs.Heap.{follow, refers_in}
use Rattle.cases.proofs.Cells.{refers_past, refers_read, follow_more, follow_done, follow_stays}
use Rattle.cases.proofs.store.end.Goals as goal

pub loop-i-init : goal.loop-i-init
loop-i-init g c top =
    let e : length c.args.cells.now - 0 ≡ length c.args.cells.now = omega arith in
    ap (λ (m : ℕ). follow (refers_in top c.args.cells.now) m c.args.cell) e

pub returns-then-at-cells : goal.returns-then-at-cells
returns-then-at-cells g c top =
    follow_stays _ _ _ (refers_past top c.args.cells.now _ c.if-at-cells.true) ∙ c.loop-i.invariant top

pub returns-then-next-at : goal.returns-then-next-at
returns-then-next-at g c top =
    follow_stays _ _ _ (sym (refers_read top c.args.cells.now _ _ c.if-at-cells.false) ∙ c.if-next-at.true) ∙ c.loop-i.invariant top

pub loop-i-preserved : goal.loop-i-preserved
loop-i-preserved g c top =
    ap (follow (refers_in top c.args.cells.now) _) (refers_read top c.args.cells.now _ _ c.if-at-cells.false)
    ∙ follow_more _ _ _ _ c.loop-i-test.true
    ∙ c.loop-i.invariant top

pub returns : goal.returns
returns g c top =
    let e : length c.args.cells.now - c.loop-i.i ≡ 0 = omega arith in
    follow_done _ _ _ e ∙ c.loop-i.invariant top
