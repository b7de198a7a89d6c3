use Rattle.std.proofs.Common.{map, take}
use Rattle.reading.specs.Notes.{said_in}
use Rattle.terms.specs.Kinds.{Readable}
use Rattle.terms.proofs.term.kinds.first_wrong.Given as goal

abbrev pub invariant-loop-said : goal.invariant-loop-said
invariant-loop-said g l = Readable (g.O.WrittenOrder.texts l.order) (map (said_in l.line) (take l.said-index l.noted))
