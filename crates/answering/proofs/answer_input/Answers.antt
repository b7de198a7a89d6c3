use Rattle.std.proofs.Common.{subst}
use Rattle.kinds.specs.Lists.{Closing}
use Rattle.answering.specs.Answers.{Answers}
use Rattle.answering.proofs.Input.{whole}
use Rattle.answering.proofs.answer_input.Goals as goal

pub returns : goal.returns
returns g c =
    let meaning = λ (l : Closing). g.O.Order.meaning (g.O.OfList.made l) in
    let texts = λ (l : Closing). g.O.WrittenOrder.texts (g.O.OfList.made l) in
    let text = c.in_ok-text.text.items in
    whole texts meaning (g.R.Read.remaining c.args.input) c.in_ok-file.file.items text c.in_ok-file.ensures
    (subst (λ file. Answers meaning texts file text) c.as_slice.ensures.value c.in_ok-text.ensures)
