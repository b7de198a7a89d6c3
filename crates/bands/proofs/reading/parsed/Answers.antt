use Rattle.std.proofs.Common.{◌≡◌, w64, to_z, of_z, arith}
use Rattle.std.proofs.lemmas.Grind.{common_steps}
use Rattle.bands.proofs.Points.{no_low, no_high, one_read}
use Rattle.bands.proofs.reading.parsed.Goals as goal

pub returns-in_err-amount : goal.returns-in_err-amount
returns-in_err-amount c = rw c.from_residual-in_err-amount.ensures (no_low c.args.text.now c.in_ok-low.low.now c.in_ok-low.high.now c.in_ok-low.ensures.cases c.in_err-amount.ensures)

pub returns-in_err-amount-2 : goal.returns-in_err-amount-2
returns-in_err-amount-2 c = rw c.from_residual-in_err-amount-2.ensures (no_high c.args.text.now c.in_ok-low.low.now c.in_ok-low.high.now c.in_ok-low.ensures.cases c.in_err-amount-2.ensures)

pub returns : goal.returns
returns c =
    let x = c.in_ok-amount.field-0 in
    let y = c.in_ok-amount-2.field-0 in
    let l : to_z w64 (of_z w64 x) ≡ x = grind (arith, common_steps) in
    let h : to_z w64 (of_z w64 y) ≡ y = grind (arith, common_steps) in
    rw (c.then_some.ensures, c.is_band.ensures, l, h) (one_read c.args.text.now c.in_ok-low.low.now c.in_ok-low.high.now c.in_ok-low.ensures.cases x y (grind (arith, common_steps)) (grind (arith, common_steps)) c.in_ok-amount.ensures c.in_ok-amount-2.ensures)
