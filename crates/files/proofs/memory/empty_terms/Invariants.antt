use Rattle.std.proofs.Common.{◌≡◌, map, replicate, vec_items}
use Rattle.terms.specs.Terms.{room_of}
use Rattle.files.proofs.memory.empty_terms.Given as goal

-- each term so far has memory for as many statements as a line may have
abbrev pub invariant-loop-number : goal.invariant-loop-number
invariant-loop-number g l = map room_of (vec_items l.terms) ≡ replicate l.number 399
