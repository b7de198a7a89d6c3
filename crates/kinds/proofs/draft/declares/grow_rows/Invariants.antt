use Rattle.std.proofs.Common.{◌≡◌, map, take, drop}
use Rattle.kinds.specs.Stored.{with_new}
use Rattle.kinds.proofs.draft.declares.grow_rows.Given as goal

abbrev pub invariant-loop-earlier : goal.invariant-loop-earlier
invariant-loop-earlier l =
    (take l.earlier-index l.kinds ≡ map (with_new l.kind) (take l.earlier-index l.initial.kinds))
    × (drop l.earlier-index l.kinds ≡ drop l.earlier-index l.initial.kinds)
