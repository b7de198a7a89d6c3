use Rattle.std.proofs.Common.{refl, arith}
use Rattle.declarations.specs.Declarations.{follow_on}
use Rattle.declarations.specs.Rows.{add_rows, mask_of, bit}
use Rattle.kinds.proofs.draft.any_alone.Goals as goal

pub invariant_of-result-2 : goal.invariant_of-result-2
unfolding follow_on add_rows mask_of bit
invariant_of-result-2 c = record { few = omega arith; sound = refl; right = refl }

pub returns : goal.returns
unfolding bit
returns c = refl
