use Rattle.std.proofs.Common.{arith}
use Rattle.files.proofs.Counting.{value1, value2, value3}
use Rattle.files.proofs.lines.value_of.Goals as goal

pub returns-in-len1 : goal.returns-in-len1
returns-in-len1 c =
    let v = value1 c.args.line.now (omega (arith, c.in-len1.len_at_least, c.in-len1.len_below)) in
    omega (arith, v, c.digit_value.ensures.value)

pub returns-in-len2 : goal.returns-in-len2
returns-in-len2 c =
    let v = value2 c.args.line.now (omega (arith, c.in-len2.len_at_least, c.in-len2.len_below)) in
    omega (arith, v, c.digit_value-in-len2.ensures.value, c.digit_value-in-len2-2.ensures.value)

pub returns-in-len3 : goal.returns-in-len3
returns-in-len3 c =
    let v = value3 c.args.line.now (omega (arith, c.in-len3.len_at_least, c.in-len3.len_below)) in
    omega (arith, v, c.digit_value-in-len3.ensures.value, c.digit_value-in-len3-2.ensures.value, c.digit_value-in-len3-3.ensures.value)
