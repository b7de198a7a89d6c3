use Rattle.std.proofs.Common.{◌≡◌, ◌+◌, ◌≤◌, drop}
use Rattle.grammar.specs.Lawful.{statements}
use Rattle.compiler.specs.Passing.{written_by_rule}
use Rattle.compiler.proofs.codes.rule.compiling.written.Given as goal

abbrev pub invariant-loop-one : goal.invariant-loop-one
invariant-loop-one g l =
    (l.count + written_by_rule (statements (drop l.one-index l.said)) ≡ written_by_rule (statements l.said))
    × (l.count ≤ l.one-index)
