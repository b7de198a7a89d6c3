use Rattle.std.proofs.Common.{refl}
use Rattle.compiler.specs.Rules.{statements_of}
use Rattle.trials.proofs.Calling.{put_back, lent_is, matching_answer, matching_holds}
use Rattle.trials.proofs.memory.Memory.match_rule.Goals as goal

pub returns-clause-answer : goal.returns-clause-answer
returns-clause-answer g c =
    let b = c.args.self.now in
    let is = lent_is b _ _ _ _ _ c.as_mut_slice.ensures.value c.as_mut_slice-2.ensures.value c.as_mut_slice-3.ensures.value c.as_mut_slice-4.ensures.value c.as_mut_slice-5.ensures.value in
    matching_answer _ b c.requires _ is _ _ _ c.as_mut_slice.ensures.value c.as_mut_slice-2.ensures.value c.as_mut_slice-6.ensures.value (statements_of c.args.rule.now) c.args.root _ c.match_rule.ensures.answer

pub returns-clause-left : goal.returns-clause-left
returns-clause-left g c =
    let b = c.args.self.now in
    let cells = c.as_mut_slice.ensures.value in
    let slots = c.as_mut_slice-2.ensures.value in
    let places = c.as_mut_slice-6.ensures.value in
    let is = lent_is b _ _ _ _ _ cells slots c.as_mut_slice-3.ensures.value c.as_mut_slice-4.ensures.value c.as_mut_slice-5.ensures.value in
    matching_holds _ b c.requires _ is _ _ _ cells slots places _ refl _ _ _
    (put_back b.cells _ _ cells c.match_rule.auto.cells) (put_back b.slots _ _ slots c.match_rule.auto.slots) (put_back b.places _ _ places c.match_rule.auto.places)
    (statements_of c.args.rule.now) c.args.root c.match_rule.ensures.kept c.match_rule.ensures.law
