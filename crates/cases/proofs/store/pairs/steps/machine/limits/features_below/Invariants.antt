use Rattle.std.proofs.Common.{◌≡◌, drop}
use Rattle.osf.specs.Calls.{features_below}
use Rattle.cases.proofs.store.pairs.steps.machine.limits.features_below.Given as goal

abbrev pub invariant-loop-statement : goal.invariant-loop-statement
invariant-loop-statement g l = features_below l.features l.statements ≡ features_below l.features (drop l.statement-index l.statements)
