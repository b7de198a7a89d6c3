use Rattle.std.proofs.Common.{arith}
use Rattle.features.specs.Model.{feature_names}
use Rattle.terms.specs.Terms.{room_of}
use Rattle.files.proofs.Near.{term_near}
use Rattle.files.proofs.Shelving.{not_full, refused, taken}
use Rattle.files.proofs.lines.shelf.ShelfSection.take_line.Goals as goal

pub returns-in-Ok-clause-answer : goal.returns-in-Ok-clause-answer
returns-in-Ok-clause-answer g c ready =
    let s = c.args.self.now in
    taken s ready (g.O.WrittenOrder.texts s.order.now) c.args.line.now c.in-Some.term.now c.in-Some.ensures.value c.read.new.self c.in-Ok.ensures.fields.0 c.in-Ok.ensures.answer

pub returns-in-Err-clause-answer : goal.returns-in-Err-clause-answer
returns-in-Err-clause-answer g c ready =
    let s = c.args.self.now in
    (refused s ready (g.O.WrittenOrder.texts s.order.now) c.args.line.now c.in-Some.term.now c.in-Some.ensures.value c.in-Err.refusal c.in-Err.ensures.answer, tt)

pub returns-in-Err-clause-near : goal.returns-in-Err-clause-near
returns-in-Err-clause-near g c =
    let s = c.args.self.now in
    term_near (g.O.WrittenOrder.texts s.order.now) (feature_names s.features.now) (room_of c.in-Some.term.now) c.args.line.now c.in-Err.refusal c.in-Err.ensures.answer

pub returns-in_default-clause-answer : goal.returns-in_default-clause-answer
returns-in_default-clause-answer g c ready = absurd (not_full c.args.self.now ready (omega (arith, c.in_default.ensures.item)))
