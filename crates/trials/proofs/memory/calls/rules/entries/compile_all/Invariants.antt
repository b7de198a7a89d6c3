use Rattle.std.proofs.Common.{◌≡◌, ◌++◌, map, drop, vec_items}
use Rattle.compiler.specs.Views.{statements_in}
use Rattle.compiler.specs.Rules.{statements_of}
use Rattle.trials.proofs.memory.calls.rules.entries.compile_all.Given as goal

-- what is compiled and what is left make the whole
abbrev pub invariant-loop-term : goal.invariant-loop-term
invariant-loop-term g l = map statements_of (vec_items l.rules) ++ map statements_in (drop l.term-index l.terms) ≡ map statements_in l.terms
