use Rattle.std.proofs.Common.{ℕ, ◌<◌, ◌∙◌, ap, refl, sym, subst, length}
use Rattle.joining.specs.Heap.{refers_in, follow}
use Rattle.cases.specs.Memory.{heap_in}
use Rattle.cases.specs.Pushing.{Uses}
use Rattle.cases.proofs.Pairing.{end_within}
use Rattle.cases.proofs.Testing.{test_step}
use Rattle.cases.proofs.store.pairs.steps.machine.advance.Goals as goal

pub returns-in-Read-TestFeature-clause-machine : goal.returns-in-Read-TestFeature-clause-machine
returns-in-Read-TestFeature-clause-machine g c =
    let m = g.O.Order.meaning c.args.order.now in
    let cells = c.args.cells.now in
    let at = c.end-at.ensures m.widest ∙ ap (follow (refers_in m.widest cells) (length cells)) c.cell_in.ensures in
    test_step c.args.features cells c.args.slots.now _ _ _ c.args.registers.now c.test.new.registers c.args.progress c.test.result
    m c.args.kinds.now c.args.instruction _ _ _ c.in-Read-TestFeature.is-0 c.in-Read-TestFeature.is-1 at c.test.ensures.tested

pub returns-else-tie-clause-beyond : goal.returns-else-tie-clause-beyond
returns-else-tie-clause-beyond g c n none uses x =
    let m = g.O.Order.meaning c.args.order.now in
    let h = heap_in c.args.progress.used c.args.features c.args.cells.now c.args.slots.now in
    let from = subst (λ (i : ℕ). i < n) (sym c.cell_in-in-Read-UnifyFeature.ensures) (x.places c.in-Read-UnifyFeature.register) in
    let at = subst (λ (i : ℕ). i < n) (sym (c.end-at-in-Read-UnifyFeature.ensures m.widest)) (end_within m.widest n h x.heap c.cell_in-in-Read-UnifyFeature.result from) in
    let cell = subst (λ (i : ℕ). i < n) (sym c.cell_in-cell.ensures) (x.places c.in-Read-UnifyFeature.value) in
    c.if-tie.ensures.beyond n refl at (subst (Uses c.args.features) c.in-Read-UnifyFeature.is-1 uses) cell x.heap
