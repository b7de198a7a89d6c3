use Rattle.std.proofs.Common.{refl, sym, ap, ◌∙◌}
use Rattle.std.proofs.lemmas.Bool.{false≢true, not-true, not-false}
use Rattle.cases.proofs.Parts.{part_back}
use Rattle.cases.proofs.JoinOf.{as_it_was, short_memory, not_in_use, joined, in_use}
use Rattle.cases.specs.Calls.{heap_of}
use Rattle.cases.proofs.Going.{law_joined}
use Rattle.cases.proofs.TermOf.{joined_whole}
use Rattle.cases.proofs.store.pairs.joins.join_cells.Goals as goal

pub returns-in-None : goal.returns-in-None
returns-in-None g c =
    let e = short_memory (g.O.Order.meaning c.args.order.now) _ c.args.case c.args.first c.args.second c.args.cells.now c.args.slots.now c.in-None.ensures in
    record { answer = sym (ap (λ x. x.answer) e); kept = as_it_was c.args.case _ _ _ _ _ e; refused = λ _. (refl, refl); law = law_joined (g.O.Order.meaning c.args.order.now) _ c.args.case c.args.first c.args.second c.args.cells.now c.args.slots.now _ (ap (λ x. x.heap) e) }

pub returns-then-not-both_in_use : goal.returns-then-not-both_in_use
returns-then-not-both_in_use g c =
    let e = not_in_use (g.O.Order.meaning c.args.order.now) _ c.args.case c.args.first c.args.second c.args.cells.now c.args.slots.now refl refl c.in-Some.ensures.1 (not-false _ (sym c.both_in_use.ensures ∙ c.if-not-both_in_use.true)) in
    record { answer = sym (ap (λ x. x.answer) e); kept = as_it_was c.args.case _ _ _ _ _ e; refused = λ _. (refl, refl); law = law_joined (g.O.Order.meaning c.args.order.now) _ c.args.case c.args.first c.args.second c.args.cells.now c.args.slots.now _ (ap (λ x. x.heap) e) }

pub returns-then-joined : goal.returns-then-joined
returns-then-joined g c =
    let m = g.O.Order.meaning c.args.order.now in
    let whole = joined_whole m _ c.args.case c.args.first c.args.second c.args.cells.now c.args.slots.now refl refl c.in-Some.ensures.1 (not-true _ (sym c.both_in_use.ensures ∙ c.if-not-both_in_use.false)) c.in-Some.size c.in-Some.ensures.0 c.join_or_restore-joined.new.cells c.join_or_restore-joined.new.slots c.join_or_restore-joined.auto.cells c.join_or_restore-joined.auto.slots (c.if-joined.ensures) in
    let x = joined m _ c.args.case c.args.first c.args.second c.args.cells.now c.args.slots.now refl refl c.in-Some.ensures.1 (not-true _ (sym c.both_in_use.ensures ∙ c.if-not-both_in_use.false)) c.in-Some.size c.in-Some.ensures.0 c.join_or_restore-joined.new.cells c.join_or_restore-joined.new.slots c.join_or_restore-joined.auto.cells c.join_or_restore-joined.auto.slots (c.if-joined.ensures) in
    record { answer = x.0; kept = (x.1, x.2); refused = λ e. absurd (false≢true e); law = law_joined (g.O.Order.meaning c.args.order.now) _ c.args.case c.args.first c.args.second c.args.cells.now c.args.slots.now _ whole }

pub returns-else-joined : goal.returns-else-joined
returns-else-joined g c =
    let m = g.O.Order.meaning c.args.order.now in
    let (clash, back) = c.if-joined.ensures in
    let e = in_use m _ c.args.case c.args.first c.args.second c.args.cells.now c.args.slots.now refl refl c.in-Some.ensures.1 (not-true _ (sym c.both_in_use.ensures ∙ c.if-not-both_in_use.false)) c.in-Some.size c.in-Some.ensures.0 _ clash in
    let cells = part_back _ _ _ (ap (λ h. h.cells) back) in
    let slots = part_back _ _ _ (ap (λ h. h.slots) back) in
    let kept = as_it_was c.args.case _ _ _ _ _ e in
    record { answer = sym (ap (λ x. x.answer) e); kept = (cells ∙ kept.0, slots ∙ kept.1); refused = λ _. (cells, slots); law = law_joined (g.O.Order.meaning c.args.order.now) _ c.args.case c.args.first c.args.second c.args.cells.now c.args.slots.now _ (ap (λ x. x.heap) e ∙ sym (ap (λ cs. heap_of c.args.case cs c.args.slots.now) cells) ∙ sym (ap (heap_of c.args.case _) slots)) }
