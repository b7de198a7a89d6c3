use Rattle.cases.proofs.Slots.{put_slot_at, put_slot_past}
use Rattle.cases.proofs.store.fill.Goals as goal

pub returns-in-Some : goal.returns-in-Some
returns-in-Some c = put_slot_at _ _ _ _ _ _ c.in-Some.ensures.0

pub returns-in_default : goal.returns-in_default
returns-in_default c = put_slot_past _ _ _ _ _ c.in_default.ensures
