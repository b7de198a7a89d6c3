use Rattle.std.proofs.Common.{◌≡◌, ◌%◌, ◌*◌, ◌^◌, ◌<◌, length, ap, ◌∙◌, inl, inr, arith, refl}
use Rattle.std.proofs.lemmas.Nat.{one_shl}
use Rattle.std.proofs.lemmas.Result.{err_from_is_err_and}
use Rattle.kinds.specs.Model.{kinds_of}
use Rattle.kinds.specs.declared.table.Kind.{Kind}
use Rattle.kinds.proofs.Declaring.{long-name, begins, refuses_grammar, refuses_known, rest-words, refuses_unknown, line_follows, line_accepted}
use Rattle.kinds.proofs.table.Table.read.Goals as goal

pub returns-in_default : goal.returns-in_default
returns-in_default c =
    let n = c.name_end-end in
    inl (inr (inl (long-name c.args.line.now n.result n.ensures.within n.ensures.name n.ensures.most c.in_default.ensures)), refl)

pub returns-in-Some-break_at : goal.returns-in-Some-break_at
returns-in-Some-break_at c =
    let line = c.args.line.now in
    let n = c.name_end-end in
    let b = begins line n.result c.if-line-gt-LONGEST_LINE.false n.ensures.within n.ensures.name n.ensures.most c.in-Some.name c.in-Some.ensures in
    refuses_grammar (kinds_of c.args.self.now) line n.result b c.in-Some-break_at.place c.in-Some-break_at.ensures

pub returns-in_err-fresh : goal.returns-in_err-fresh
returns-in_err-fresh c =
    let p = err_from_is_err_and c.from_residual.result c.from_residual.ensures.1 in
    let ds = kinds_of c.args.self.now in
    let line = c.args.line.now in
    let n = c.name_end-end in
    let b = begins line n.result c.if-line-gt-LONGEST_LINE.false n.ensures.within n.ensures.name n.ensures.most c.in-Some.name c.in-Some.ensures in
    let room : length ds < 64 = omega arith in
    let f = c.in_err-fresh.ensures in
    rw (p.1, p.2) (refuses_known ds line n.result b c.in_default-break_at.ensures room _ f.0 f.1)

pub returns-in_err-wider : goal.returns-in_err-wider
returns-in_err-wider c =
    let p = err_from_is_err_and c.from_residual-in_err-wider.result c.from_residual-in_err-wider.ensures.1 in
    let ds = kinds_of c.args.self.now in
    let line = c.args.line.now in
    let n = c.name_end-end in
    let b = begins line n.result c.if-line-gt-LONGEST_LINE.false n.ensures.within n.ensures.name n.ensures.most c.in-Some.name c.in-Some.ensures in
    let l = c.in_default-break_at.ensures in
    let room : length ds < 64 = omega arith in
    let g = c.in_err-wider.ensures l.wider l.each (rest-words ds line n.result b l room) in
    rw (p.1, p.2) (refuses_unknown ds line n.result b l room _ c.in_ok-fresh.ensures g)

pub returns : goal.returns
returns c =
    let ds = kinds_of c.args.self.now in
    let line = c.args.line.now in
    let n = c.name_end-end in
    let b = begins line n.result c.if-line-gt-LONGEST_LINE.false n.ensures.within n.ensures.name n.ensures.most c.in-Some.name c.in-Some.ensures in
    let l = c.in_default-break_at.ensures in
    let room : length ds < 64 = omega arith in
    let g = c.in_ok-wider.ensures l.wider l.each (rest-words ds line n.result b l room) in
    let bit = 1 * 2 ^ c.len-2.result % 2 ^ 64 in
    let kind : Kind = record { name = c.in-Some.name; wider = c.in_ok-wider.wider; row = bit } in
    let row : bit ≡ 2 ^ length ds = one_shl c.len-2.result 64 (omega arith) ∙ ap (λ k. 2 ^ k) c.len-2.ensures.value in (
      room,
      g.1,
      row,
      line_follows ds line n.result b l room kind g c.in_ok-fresh.ensures c.in-Some.ensures.1,
      line_accepted ds line n.result b l room kind g c.in_ok-fresh.ensures c.in-Some.ensures.1,
    )
