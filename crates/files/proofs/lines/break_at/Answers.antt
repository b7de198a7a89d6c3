use Rattle.std.proofs.Common.{arith, inl, inr}
use Rattle.std.proofs.lemmas.Bool.{cases_lt}
use Rattle.files.proofs.Counting.{breaks, within}
use Rattle.files.proofs.lines.break_at.Goals as goal

pub returns-clause-breaks : goal.returns-clause-breaks
returns-clause-breaks c =
    let e = c.min.ensures in
    let d = c.digits.ensures in
    breaks c.args.line.now c.min.result (omega (arith, e)) (omega (arith, e, d)) c.requires (elim (cases_lt 3 c.digits.result) [
      | inl l ↦ inl (omega (arith, e, l))
      | inr l ↦ inr (omega (arith, e, d, l))
    ])

pub returns-clause-within : goal.returns-clause-within
returns-clause-within c = omega (arith, c.min.ensures, c.digits.ensures, within c.args.line.now)
