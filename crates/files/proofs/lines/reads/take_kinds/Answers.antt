use Rattle.std.proofs.Common.{Ok, Err, subst}
use Rattle.declarations.specs.Lines.{Declares}
use Rattle.kinds.specs.Lists.{drafted}
use Rattle.files.specs.Files.{Section}
use Rattle.files.specs.Model.{mapped}
use Rattle.files.proofs.Sections.{kinds_read}
use Rattle.files.proofs.lines.reads.take_kinds.Goals as goal

pub returns-in-Ok-clause-answer : goal.returns-in-Ok-clause-answer
returns-in-Ok-clause-answer c =
    let r = Ok (c.take_section.new.section, c.in-Ok.next) in
    subst (λ ds. Section (Declares 64) c.args.limit c.args.file.now 0 ds (mapped drafted r)) c.new-draft.ensures
    (kinds_read c.args.limit c.args.file.now 0 c.new-draft.result r c.in-Ok.ensures.answer)

pub returns-in-Err-clause-answer : goal.returns-in-Err-clause-answer
returns-in-Err-clause-answer c =
    subst (λ ds. Section (Declares 64) c.args.limit c.args.file.now 0 ds (Err c.in-Err.refusal)) c.new-draft.ensures
    (kinds_read c.args.limit c.args.file.now 0 c.new-draft.result (Err c.in-Err.refusal) c.in-Err.ensures.answer)
