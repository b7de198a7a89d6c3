use Rattle.std.proofs.Common.{sym, ◌∙◌}
use Rattle.cases.proofs.Below.{below_not, below_more, below_all}
use Rattle.cases.proofs.store.pairs.steps.machine.limits.features_below.Goals as goal

pub returns-then-not-feature_below : goal.returns-then-not-feature_below
returns-then-not-feature_below g c =
    sym (c.loop-statement.invariant ∙ below_not _ _ _ c.statement-item.result c.loop-statement-test.true c.statement-item.is (sym c.feature_below.ensures ∙ c.if-not-feature_below.true))

pub loop-statement-preserved : goal.loop-statement-preserved
loop-statement-preserved g c =
    c.loop-statement.invariant ∙ below_more _ _ _ c.statement-item.result c.loop-statement-test.true c.statement-item.is (sym c.feature_below.ensures ∙ c.if-not-feature_below.false)

pub returns : goal.returns
returns g c = sym (c.loop-statement.invariant ∙ below_all _ _ _ c.loop-statement-test.false)
