use Rattle.cases.proofs.Slots.{slot_at, slot_past}
use Rattle.cases.proofs.store.slot.Goals as goal

pub returns-in-Some : goal.returns-in-Some
returns-in-Some c = slot_at _ _ _ _ _ c.in-Some.ensures.0

pub returns-in-None : goal.returns-in-None
returns-in-None c = slot_past _ _ _ _ c.in-None.ensures
