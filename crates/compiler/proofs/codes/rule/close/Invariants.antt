use Rattle.std.proofs.Common.{◌≡◌, ◌++◌, vec_items, vec_capacity}
use Rattle.instructions.specs.Codes.{closes}
use Rattle.compiler.proofs.codes.rule.close.Given as goal

abbrev pub invariant-loop-above : goal.invariant-loop-above
invariant-loop-above l =
    (vec_items l.writes ++ closes l.above l.to l.label ≡ vec_items l.initial.writes ++ closes l.from l.to l.label)
    × (vec_capacity l.writes ≡ vec_capacity l.initial.writes)
