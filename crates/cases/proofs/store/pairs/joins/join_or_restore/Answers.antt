use Rattle.std.proofs.Common.{◌*◌, sym, subst, ap, ◌∙◌}
use Rattle.cases.specs.Memory.{heap_in, JoinedOrBack}
use Rattle.cases.proofs.Copying.{copied_beyond, put_back}
use Rattle.cases.proofs.store.pairs.joins.join_or_restore.Goals as goal

pub returns-then-not-joined : goal.returns-then-not-joined
returns-then-not-joined g c =
    let m = g.O.Order.meaning c.args.order.now in
    let n = c.to_copy-count.result in
    let past = copied_beyond c.args.used c.args.features c.args.cells.now c.args.slots.now c.join-joined.new.cells c.join-joined.new.slots c.requires.sizes c.join-joined.auto.cells c.join-joined.auto.slots m.widest
    (c.join-joined.ensures.beyond c.args.used c.requires.used.0 c.requires.used.1) n c.to_copy-count.ensures.count in
    let cells = put_back n c.args.cells.now _ _ _ _ c.to_copy-count.ensures.within.0 c.copy.ensures.cells c.copy-then-not-joined.ensures.cells past.0 in
    let slots = put_back (n * c.args.features) c.args.slots.now _ _ _ _ c.to_copy-count.ensures.within.1 c.copy.ensures.slots c.copy-then-not-joined.ensures.slots past.1 in
    let back = ap (λ xs. heap_in c.args.used c.args.features xs c.copy-then-not-joined.new.slots) cells ∙ ap (heap_in c.args.used c.args.features c.args.cells.now) slots in
    subst (JoinedOrBack _ _ _) (sym c.if-not-joined.true) (c.if-not-joined.ensures.answer c.args.used, back)
