use Rattle.std.proofs.Common.{◌≡◌, ℕ, ◌-◌, true, List, length, drop}
use Rattle.std.specs.List.{AllByRecursion}
use Rattle.declarations.specs.Names.{is_name}
use Rattle.declarations.specs.Lines.{tail}
use Rattle.kinds.specs.Model.{kinds_of}
use Rattle.kinds.proofs.Gathering.{Progress}
use Rattle.kinds.proofs.table.Table.gather.Given as goal

abbrev pub invariant-loop-end : goal.invariant-loop-end
invariant-loop-end l =
    (ws : List (List ℕ)) → AllByRecursion (λ w. is_name w ≡ true) ws → drop l.at l.line ≡ tail ws → Progress (kinds_of l.self) l.at ws l.line l.end l.wider

abbrev pub decreases-loop-end : goal.decreases-loop-end
decreases-loop-end l = length l.line - l.end
