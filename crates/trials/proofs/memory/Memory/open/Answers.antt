use Rattle.std.proofs.Common.{ap, ◌∙◌, replicate}
use Rattle.trials.proofs.Calling.{put_back, lent_is, opened_stands, opening_refused}
use Rattle.trials.proofs.memory.Memory.open.Goals as goal

pub returns-in-Ok-clause-opened : goal.returns-in-Ok-clause-opened
returns-in-Ok-clause-opened g c =
    let b = c.args.self.now in
    let cells = c.as_mut_slice.ensures.value in
    let slots = c.as_mut_slice-2.ensures.value in
    let is = lent_is b _ _ _ _ _ cells slots c.as_slice.ensures.value c.as_slice-2.ensures.value c.as_slice-3.ensures.value in
    let (opening, stands) = opened_stands (g.O.Order.meaning c.args.order.now) _ _ is _ _ (put_back b.cells _ _ cells c.open.auto.cells) (put_back b.slots _ _ slots c.open.auto.slots) c.in-Ok.ensures.answer c.in-Ok.ensures.law in
    (opening, c.fill.ensures.items (λ y e. e) ∙ ap (λ n. replicate n 0) (b.places.ok.0 ∙ b.places_are), stands)

pub returns-in-Err-clause-opened : goal.returns-in-Err-clause-opened
returns-in-Err-clause-opened g c =
    let is = lent_is c.args.self.now _ _ _ _ _ c.as_mut_slice.ensures.value c.as_mut_slice-2.ensures.value c.as_slice.ensures.value c.as_slice-2.ensures.value c.as_slice-3.ensures.value in
    opening_refused (g.O.Order.meaning c.args.order.now) _ _ is _ c.in-Err.ensures.answer
