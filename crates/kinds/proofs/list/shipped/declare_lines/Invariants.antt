use Rattle.std.proofs.Common.{◌≡◌, ◌+◌, take}
use Rattle.kinds.specs.Lists.{drafted}
use Rattle.kinds.specs.Shipped.{shipped}
use Rattle.kinds.proofs.list.shipped.declare_lines.Given as goal

abbrev pub invariant-loop-line : goal.invariant-loop-line
invariant-loop-line l = drafted l.draft ≡ take (l.line-index + 1) shipped
