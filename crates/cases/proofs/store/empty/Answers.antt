use Rattle.std.proofs.Common.{◌∙◌}
use Rattle.cases.proofs.Slots.{emptied_none, emptied_at, emptied_past}
use Rattle.cases.proofs.store.empty.Goals as goal
use Rattle.cases.proofs.store.empty.Goals.{in-Some, in_default}

pub loop-feature-init : goal.loop-feature-init
loop-feature-init c = emptied_none _ _

pub loop-feature-preserved : goal.loop-feature-preserved
loop-feature-preserved c =
    elim c.match-place.branch [
      | in-Some w ↦ w.slots-is ∙ emptied_at _ _ _ _ c.loop-feature.invariant _ w.in-Some.ensures.0
      | in_default w ↦ w.slots-is ∙ emptied_past _ _ _ _ c.loop-feature.invariant w.in_default.ensures
    ]
