use Rattle.std.proofs.Common.{suc, ◌+◌, [], length, Some, Ok, subst, add-one, arith}
use Rattle.std.proofs.lemmas.Result.{err_from_is_err_and}
use Rattle.features.specs.Model.{feature_names}
use Rattle.reading.specs.declared.reader.Head.TheVariants.{Described}
use Rattle.reading.specs.Notes.{noted}
use Rattle.reading.specs.Reading.{ClosingRead, HeadRead, BodyRead, TermRead}
use Rattle.reading.proofs.Gathering.{bare-read, ends_read, opens_read}
use Rattle.reading.proofs.Listing.{none_seen, done-read, more-read}
use Rattle.reading.proofs.reader.Reader.+list_term.Goals as goal
use Rattle.reading.proofs.reader.Reader.+list_term.Goals.{list-In_ok-end, term-In-Described}

-- the value of the item, under one parenthesis more
abbrev Value : (t : _) → list-In_ok-end t → Prim.Native.Nat.ℕ → Type 0
Value t c d =
    TermRead (feature_names c.args.self.now.features.now) c.args.self.now.line.now
    (Some (record { variable = c.args.variable; feature = c.look_up-looked.result.feature; place = c.args.at + 1 }))
    (c.args.at + 1 + length c.in_ok-word.word.text.now + 2) d c.mark.new.self c.term.new.notes (Ok c.in_ok-end.end)

value : (t : _) (c : list-In_ok-end t) → Value t c (suc c.args.depth)
value t c = subst (Value t c) (add-one c.args.depth) c.in_ok-end.ensures

pub list-returns-in_err-word : goal.list-returns-in_err-word
list-returns-in_err-word t c =
    let p = err_from_is_err_and c.from_residual.result c.from_residual.ensures.1 in
    rw (p.1, p.2) (λ words s. c.in_err-word.ensures (suc c.args.depth) c.requires.1.0)

pub list-returns-in_err-end : goal.list-returns-in_err-end
list-returns-in_err-end t c =
    let p = err_from_is_err_and c.from_residual-in_err-end.result c.from_residual-in_err-end.ensures.1 in
    rw (p.1, p.2) (λ words s. c.in_err-end.ensures)

pub list-returns-in_err-after_item : goal.list-returns-in_err-after_item
list-returns-in_err-after_item t c =
    let p = err_from_is_err_and c.from_residual-in_err-after_item.result c.from_residual-in_err-after_item.ensures.1 in
    let e = (goal.at.list-returns-in_err-after_item t c).In_ok-end in
    rw (p.1, p.2) (λ words s. c.in_err-after_item.ensures c.args.depth (value t e).3)

pub list-list-requires : goal.list-list-requires
list-list-requires t c =
    let line = c.args.self.now.line.now in
    let e = (goal.at.list-list-requires t c).In_ok-end in
    let v = value t e in
    let closes = subst (λ k. ClosingRead line c.in_ok-end.end c.args.depth (Ok k)) c.in-More.is (c.in_ok-after_item.ensures c.args.depth v.3) in
    (omega (arith, closes.0.within, v.2.end), (omega (arith, closes.0.within), (closes.1, (v.5, c.requires.1.1.1))))

pub list-returns-in-More : goal.list-returns-in-More
list-returns-in-More t c =
    let e = (goal.at.list-returns-in-More t c).In_ok-end in
    let line = c.args.self.now.line.now in
    let word = c.in_ok-word.ensures (suc c.args.depth) c.requires.1.0 in
    let v = value t e in
    let closes = subst (λ k. ClosingRead line c.in_ok-end.end c.args.depth (Ok k)) c.in-More.is (c.in_ok-after_item.ensures c.args.depth v.3) in
    λ words s.
    let up = c.look_up-looked.ensures words s in
    more-read (feature_names c.args.self.now.features.now) line c.args.variable words c.args.at c.args.depth c.args.notes.now c.mark.new.self c.term.new.notes
    c.in_ok-word.word c.look_up-looked.result word up (c.mark.ensures.told line) c.in_ok-end.end v closes c.list.new.notes c.list.result
    (c.list.ensures _ up.2)

pub list-returns-in-Done : goal.list-returns-in-Done
list-returns-in-Done t c =
    let e = (goal.at.list-returns-in-Done t c).In_ok-end in
    let line = c.args.self.now.line.now in
    let word = c.in_ok-word.ensures (suc c.args.depth) c.requires.1.0 in
    let v = value t e in
    let closes = subst (λ k. ClosingRead line c.in_ok-end.end c.args.depth (Ok k)) c.in-Done.is (c.in_ok-after_item.ensures c.args.depth v.3) in
    λ words s.
    done-read (feature_names c.args.self.now.features.now) line c.args.variable words c.args.at c.args.depth c.args.notes.now c.mark.new.self c.term.new.notes
    c.in_ok-word.word c.look_up-looked.result word (c.look_up-looked.ensures words s) (c.mark.ensures.told line) c.in_ok-end.end v closes

pub term-returns-in_err-head : goal.term-returns-in_err-head
term-returns-in_err-head t c =
    let p = err_from_is_err_and c.from_residual.result c.from_residual.ensures.1 in
    rw (p.1, p.2) (c.in_err-head.ensures.answer c.args.depth c.requires.1.0)

-- the front of a description
front : (t : _) (c : term-In-Described t) → HeadRead c.args.self.now.line.now c.args.from c.args.at c.args.depth (noted c.args.self.now.line.now c.args.notes.now) (noted c.args.self.now.line.now c.head.new.notes) (Ok (Described c.in-Described.variable c.in-Described.kind))
front t c =
    let line = c.args.self.now.line.now in
    subst (λ h. HeadRead line c.args.from c.args.at c.args.depth (noted line c.args.notes.now) (noted line c.head.new.notes) (Ok h)) c.in-Described.is
    (c.in_ok-head.ensures.answer c.args.depth c.requires.1.0)

pub term-returns-in_err-body-in-Described : goal.term-returns-in_err-body-in-Described
term-returns-in_err-body-in-Described t c =
    let p = err_from_is_err_and c.from_residual-in_err-body-in-Described.result c.from_residual-in_err-body-in-Described.ensures.1 in
    let h = front t (goal.at.term-returns-in_err-body-in-Described t c).In-Described in
    rw (p.1, p.2) (c.in_err-body-in-Described.ensures.answer h.4)

pub term-returns-in-Bare : goal.term-returns-in-Bare
term-returns-in-Bare t c =
    let line = c.args.self.now.line.now in
    let h = subst (λ h. HeadRead line c.args.from c.args.at c.args.depth (noted line c.args.notes.now) (noted line c.head.new.notes) (Ok h)) c.in-Bare.is
    (c.in_ok-head.ensures.answer c.args.depth c.requires.1.0) in
    bare-read (feature_names c.args.self.now.features.now) line c.args.from c.args.at c.args.depth c.args.notes.now c.head.new.notes
    c.requires.1.1.0 c.head.ensures.counts.0 c.head.ensures.counts.1 c.in-Bare.end h

pub term-returns-in-Ends : goal.term-returns-in-Ends
term-returns-in-Ends t c =
    let line = c.args.self.now.line.now in
    let h = front t (goal.at.term-returns-in-Ends t c).In-Described in
    let b = subst (λ b. BodyRead line c.in-Described.variable c.in-Described.kind c.args.depth (noted line c.head.new.notes) (noted line c.body.new.notes) (Ok b)) c.in-Ends.is
    (c.in_ok-body-in-Described.ensures.answer h.4) in
    ends_read (feature_names c.args.self.now.features.now) line c.args.from c.args.at c.args.depth c.args.notes.now c.head.new.notes
    c.requires.1.1.0 c.head.ensures.counts.0 c.head.ensures.counts.1 c.in-Described.variable c.in-Described.kind h c.body.new.notes
    c.body.ensures.counts.0 c.body.ensures.counts.1 c.in-Ends.end b

pub term-returns-in-Opens : goal.term-returns-in-Opens
term-returns-in-Opens t c =
    let features = feature_names c.args.self.now.features.now in
    let line = c.args.self.now.line.now in
    let h = front t (goal.at.term-returns-in-Opens t c).In-Described in
    let b = subst (λ b. BodyRead line c.in-Described.variable c.in-Described.kind c.args.depth (noted line c.head.new.notes) (noted line c.body.new.notes) (Ok b)) c.in-Opens.is
    (c.in_ok-body-in-Described.ensures.answer h.4) in
    opens_read features line c.args.from c.args.at c.args.depth c.args.notes.now c.head.new.notes
    c.requires.1.1.0 c.head.ensures.counts.0 c.head.ensures.counts.1 c.in-Described.variable c.in-Described.kind h c.body.new.notes
    c.body.ensures.counts.0 c.body.ensures.counts.1 c.in-Opens.list b c.list.new.notes c.list.result (c.list.ensures [] (none_seen features 16))
