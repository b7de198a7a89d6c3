use Rattle.std.proofs.Common.{refl}
use Rattle.compiler.specs.Entries.{statements_of}
use Rattle.trials.proofs.Calling.{put_back, lent_is, entering_answer, entering_holds}
use Rattle.trials.proofs.memory.Memory.enter.Goals as goal

pub returns-clause-answer : goal.returns-clause-answer
returns-clause-answer g c =
    let b = c.args.self.now in
    let is = lent_is b _ _ _ _ _ c.as_mut_slice.ensures.value c.as_mut_slice-2.ensures.value c.as_slice.ensures.value c.as_slice-2.ensures.value c.as_slice-3.ensures.value in
    entering_answer _ b c.requires _ is _ _ _ c.as_mut_slice.ensures.value c.as_mut_slice-2.ensures.value c.as_mut_slice-3.ensures.value (statements_of c.args.entry.now) _ c.enter.ensures.answer

pub returns-clause-left : goal.returns-clause-left
returns-clause-left g c =
    let b = c.args.self.now in
    let cells = c.as_mut_slice.ensures.value in
    let slots = c.as_mut_slice-2.ensures.value in
    let places = c.as_mut_slice-3.ensures.value in
    let is = lent_is b _ _ _ _ _ cells slots c.as_slice.ensures.value c.as_slice-2.ensures.value c.as_slice-3.ensures.value in
    entering_holds _ b c.requires _ is _ _ _ cells slots places _ refl _ _ _
    (put_back b.cells _ _ cells c.enter.auto.cells) (put_back b.slots _ _ slots c.enter.auto.slots) (put_back b.places _ _ places c.enter.auto.places)
    (statements_of c.args.entry.now) c.enter.ensures.kept c.enter.ensures.law
