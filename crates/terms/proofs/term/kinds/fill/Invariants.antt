use Rattle.std.proofs.Common.{◌≡◌, map, take, vec_items, vec_len, vec_capacity}
use Rattle.grammar.specs.Lawful.{depths, statements}
use Rattle.grammar.specs.Only.{OnlyReads}
use Rattle.reading.specs.Notes.{said_in}
use Rattle.terms.proofs.term.kinds.fill.Given as goal

abbrev pub invariant-loop-said : goal.invariant-loop-said
invariant-loop-said g l =
    OnlyReads (g.O.WrittenOrder.texts l.order) (map (said_in l.line) (take l.said-index l.noted)) (vec_items l.rows)
    × (vec_items l.depths ≡ depths (statements (vec_items l.rows)))
    × (vec_len l.rows ≡ l.said-index)
    × (vec_capacity l.rows ≡ vec_capacity l.initial.rows)
    × (vec_capacity l.depths ≡ vec_capacity l.initial.depths)
