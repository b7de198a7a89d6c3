use Rattle.std.proofs.Common.{◌≡◌, take, Some}
use Rattle.scanning.specs.Scanner.{runs}
use Rattle.scanning.proofs.break_at.Given as goal

abbrev pub invariant-loop-i : goal.invariant-loop-i
invariant-loop-i g l = runs g.P.LinePart.part_after g.P.LinePart.first_part (take l.i l.line) ≡ Some l.part
