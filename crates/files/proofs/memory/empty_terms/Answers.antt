use Rattle.files.proofs.Shelving.{room_more}
use Rattle.files.proofs.memory.empty_terms.Goals as goal

pub loop-number-preserved : goal.loop-number-preserved
loop-number-preserved g c =
    room_more c.loop-number.terms.items c.push.new.self.items c.in_ok-new.field-0 c.loop-number.number c.loop-number.invariant c.in_ok-new.ensures.1 c.in_ok-push.ensures.items
