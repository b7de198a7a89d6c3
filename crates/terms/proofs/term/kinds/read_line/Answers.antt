use Rattle.std.proofs.Common.{sym, refl, ◌∙◌}
use Rattle.std.proofs.lemmas.Bool.{false≢true}
use Rattle.features.specs.Model.{feature_names}
use Rattle.grammar.proofs.Determined.{only_refusal}
use Rattle.terms.specs.Kinds.{Found}
use Rattle.terms.proofs.Finishing.{refused_early}
use Rattle.terms.proofs.term.kinds.read_line.Given as given
use Rattle.terms.proofs.term.kinds.read_line.Goals as goal
use Rattle.terms.proofs.term.kinds.read_line.Goals.{After-len}

found : (g : given.Over) (c : After-len g) → Found (feature_names c.args.features.now) c.len.result c.args.line.now c.note_in.new.notes
found g c =
    let (words, same, right) = c.in-Ok.ensures in
    record { many = sym c.len.ensures.answer; words = words; same = same; right = right }

pub finish-requires : goal.finish-requires
finish-requires g c = (feature_names c.args.features.now, found g (goal.at.finish-requires g c).After-len)

pub returns-in-Ok : goal.returns-in-Ok
returns-in-Ok g c =
    let F = feature_names c.args.features.now in
    let f = found g (goal.at.returns-in-Ok g c).After-len in
    record {
      answer = c.finish.ensures.answer F f;
      kept = c.finish.ensures.kept;
      fixed = c.finish.ensures.fixed F f;
      few = c.finish.ensures.few;
      fields = (c.finish.ensures.fields.0, λ h. c.finish.ensures.fields.1 h ∙ c.len.ensures.answer);
    }

pub returns-in-Err : goal.returns-in-Err
returns-in-Err g c =
    let m = g.O.WrittenOrder.texts c.args.order.now in
    let F = feature_names c.args.features.now in
    let line = c.args.line.now in
    let room = c.args.term.now.room in
    let r = refused_early m F room line c.in-Err.refusal c.in-Err.ensures in
    record {
      answer = r;
      kept = λ _. refl;
      fixed = λ s vs a. (only_refusal m F room line c.in-Err.refusal r s vs a, λ h. absurd (false≢true h));
      few = λ h. absurd (false≢true h);
      fields = (refl, λ h. absurd (false≢true h));
    }
