use Rattle.answering.proofs.Answering.{tried, refused}
use Rattle.answering.proofs.answer.Goals as goal

pub returns-in-Ok : goal.returns-in-Ok
returns-in-Ok g c =
    tried g.O.OfList.made (λ o. g.O.Order.meaning o) (λ o. g.O.WrittenOrder.texts o) c.args.file.now c.in-Ok.book c.tried_text.result c.in-Ok.ensures.answer c.tried_text.ensures

pub returns-in-Err : goal.returns-in-Err
returns-in-Err g c =
    refused g.O.OfList.made (λ o. g.O.Order.meaning o) (λ o. g.O.WrittenOrder.texts o) c.args.file.now c.in-Err.refusal c.refused_text.result c.in-Err.ensures.answer c.refused_text.ensures
