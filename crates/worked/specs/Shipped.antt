-- The order of the shipped list, by its declarations.
use Rattle.std.specs.Prelude.{◌≡◌, ℕ, true}
use Rattle.std.proofs.Common.{refl, arith}
use lib.Count.{count_trailing_zeros}
use Rattle.orders.specs.Meaning.{Meaning}
use Rattle.orders.specs.Texts.{Texts}
use Rattle.declarations.specs.Names.{all_name, listed}
use Rattle.declarations.specs.Declarations.{all_below, follow_on, sound}
use Rattle.declarations.specs.Rows.{rows_of, add_rows, mask_of, meets_all, closed_to, closed}
use Rattle.declarations.proofs.Ordered.{order_of}
use Rattle.declarations.proofs.Named.{texts_of}
use Rattle.kinds.specs.Shipped.{shipped}

pub declared_so : sound shipped ≡ true
unfolding follow_on all_below all_name listed
declared_so = refl

pub closed_so : closed 64 (rows_of shipped) ≡ true
unfolding add_rows mask_of meets_all closed_to count_trailing_zeros
closed_so = refl

abbrev pub order : Meaning ℕ
order = order_of 64 shipped declared_so (omega arith) closed_so

abbrev pub texts : Texts ℕ
texts = texts_of shipped declared_so
