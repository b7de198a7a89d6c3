use Rattle.std.proofs.Common.{Ok, Err}
use Rattle.files.specs.declared.lines.shelf.Shelf.{Shelf}
use Rattle.files.proofs.Sections.{terms_read, begins, cut_off}
use Rattle.files.proofs.lines.reads.read_terms.Goals as goal

pub returns-in-Ok-clause-answer : goal.returns-in-Ok-clause-answer
returns-in-Ok-clause-answer g c =
    let texts : g.row.O.Denot → _ = λ o. g.O.WrittenOrder.texts o in
    let x : Shelf g.row.K.Denot g.row.O.Denot = record { order = c.args.order; features = c.args.features; terms = c.args.terms; filled = 0 } in
    let h = terms_read texts c.args.order c.args.features c.args.file.now c.args.place x (Ok (c.take_section.new.section, c.in-Ok.next))
    (begins texts c.args.order c.args.features c.args.terms c.requires.empty) c.in-Ok.ensures.answer in
    cut_off texts c.args.order c.args.features c.args.file.now c.args.place c.in-Ok.next _ _ c.truncate.ensures.items h.0

pub returns-in-Err-clause-answer : goal.returns-in-Err-clause-answer
returns-in-Err-clause-answer g c =
    let texts : g.row.O.Denot → _ = λ o. g.O.WrittenOrder.texts o in
    let x : Shelf g.row.K.Denot g.row.O.Denot = record { order = c.args.order; features = c.args.features; terms = c.args.terms; filled = 0 } in
    (terms_read texts c.args.order c.args.features c.args.file.now c.args.place x (Err c.in-Err.refusal)
    (begins texts c.args.order c.args.features c.args.terms c.requires.empty) c.in-Err.ensures.answer).0
