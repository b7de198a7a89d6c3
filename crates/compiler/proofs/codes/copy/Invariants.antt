use Rattle.std.proofs.Common.{◌≡◌, ◌≤◌, ◌++◌, drop, vec_items, vec_len, vec_capacity}
use Rattle.grammar.specs.Lawful.{statements}
use Rattle.instructions.specs.Codes.{kinds}
use Rattle.compiler.proofs.codes.copy.Given as goal

abbrev pub invariant-loop-one : goal.invariant-loop-one
invariant-loop-one g l =
    record {
      statements_so_far : vec_items l.statements ++ statements (drop l.one-index l.said) ≡ statements l.said;
      kinds_so_far : vec_items l.kinds ++ kinds (statements (drop l.one-index l.said)) ≡ kinds (statements l.said);
      many : vec_len l.statements ≡ l.one-index;
      few : vec_len l.kinds ≤ l.one-index;
      statements_capacity : vec_capacity l.statements ≡ vec_capacity l.initial.statements;
      kinds_capacity : vec_capacity l.kinds ≡ vec_capacity l.initial.kinds;
    }
