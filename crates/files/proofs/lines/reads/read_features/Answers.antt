use Rattle.std.proofs.Common.{Ok, Err, subst}
use Rattle.features.specs.Lines.{Declares}
use Rattle.features.specs.Model.{feature_names}
use Rattle.files.specs.Files.{Section}
use Rattle.files.specs.Model.{mapped}
use Rattle.files.proofs.Sections.{features_read}
use Rattle.files.proofs.lines.reads.read_features.Goals as goal

pub returns-in-Ok-clause-answer : goal.returns-in-Ok-clause-answer
returns-in-Ok-clause-answer c =
    let r = Ok (c.take_section.new.section, c.in-Ok.next) in
    subst (λ fs. Section Declares 16 c.args.file.now c.args.place fs (mapped feature_names r)) c.new-features.ensures
    (features_read 16 c.args.file.now c.args.place c.new-features.result r c.in-Ok.ensures.answer)

pub returns-in-Err-clause-answer : goal.returns-in-Err-clause-answer
returns-in-Err-clause-answer c =
    subst (λ fs. Section Declares 16 c.args.file.now c.args.place fs (Err c.in-Err.refusal)) c.new-features.ensures
    (features_read 16 c.args.file.now c.args.place c.new-features.result (Err c.in-Err.refusal) c.in-Err.ensures.answer)
