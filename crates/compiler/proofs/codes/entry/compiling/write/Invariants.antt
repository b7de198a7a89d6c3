use Rattle.std.proofs.Common.{◌≡◌, drop, vec_items, vec_capacity}
use Rattle.compiler.proofs.Entering.{Entering}
use Rattle.compiler.proofs.codes.entry.compiling.write.Given as goal

abbrev pub invariant-loop-statement : goal.invariant-loop-statement
invariant-loop-statement g l =
    Entering l.statements (drop l.statement-index l.statements) l.statement-index l.pass (vec_items l.code)
    × (vec_capacity l.code ≡ vec_capacity l.initial.code)
