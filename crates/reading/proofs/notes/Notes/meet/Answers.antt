use Rattle.std.proofs.Common.{ap, ◌∙◌}
use Rattle.features.specs.Model.{number_of}
use Rattle.reading.specs.Notes.{noted, part}
use Rattle.reading.proofs.Noting.{new_number, new_unknown}
use Rattle.reading.proofs.notes.Notes.meet.Goals as goal

pub returns-in-None-clause-answer : goal.returns-in-None-clause-answer
returns-in-None-clause-answer c =
    let line = c.args.line.now in
    let t = noted line c.args.self.now in
    let w = part line c.args.name in
    let none = c.in-None.ensures ∙ ap (λ v. number_of v t.names) c.bytes_of.ensures in
    (c.add.ensures.answer line ∙ new_number t w none, new_unknown t w none)
