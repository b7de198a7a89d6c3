use Rattle.std.proofs.Common.{◌≡◌, ℕ, drop, vec_items, vec_capacity}
use Rattle.compiler.proofs.Matching.{Matching}
use Rattle.compiler.proofs.codes.rule.compiling.write.Given as goal

abbrev pub invariant-loop-statement : goal.invariant-loop-statement
invariant-loop-statement g l =
    record {
      matching : (n : ℕ) × Matching n l.statements (drop l.statement-index l.statements) l.statement-index l.pass l.depth (vec_items l.reads) (vec_items l.writes);
      reads_capacity : vec_capacity l.reads ≡ vec_capacity l.initial.reads;
      writes_capacity : vec_capacity l.writes ≡ vec_capacity l.initial.writes;
    }
