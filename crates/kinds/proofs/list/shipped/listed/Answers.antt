use Rattle.std.proofs.Common.{refl, arith}
use lib.Count.{count_trailing_zeros}
use Rattle.declarations.specs.Declarations.{all_below, follow_on}
use Rattle.declarations.specs.Names.{all_name, listed}
use Rattle.declarations.specs.Rows.{add_rows, mask_of, bit, meets_all, closed_to}
use Rattle.kinds.proofs.list.shipped.listed.Goals as goal

pub invariant_of-result-130 : goal.invariant_of-result-130
unfolding follow_on all_below all_name listed add_rows mask_of bit
invariant_of-result-130 c = record { few = omega arith; sound = refl; right = refl }

pub invariant_of-result-131 : goal.invariant_of-result-131
unfolding meets_all closed_to count_trailing_zeros
invariant_of-result-131 c = record { closed = refl }

pub returns : goal.returns
unfolding bit
returns c = refl
