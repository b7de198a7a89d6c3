use Rattle.std.proofs.Common.{◌+◌, ◌≤◌, length, arith}
use Rattle.bands.proofs.Placing.{long, placed}
use Rattle.bands.proofs.spelling.put_ends.Goals as goal

pub returns : goal.returns
returns c =
    let low = c.args.low.now in
    let high = c.args.high.now in
    let before = c.args.memory.now in
    let fits : length low + 2 + length high ≤ length before = omega (arith, c.if-len-memory.false) in
    let is = long low high before fits in (
      λ _. (
        omega (arith, is),
        rw c.copy_from_slice.ensures.after (placed low high before fits c.copy_from_slice-2.new.self c.copy_from_slice-2.ensures.after _ (omega arith)),
      ),
      λ l. absurd (omega (arith, is)),
    )
