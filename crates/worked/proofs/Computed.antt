-- The table, computed.
use Rattle.std.specs.Fmt.{digits}
use Rattle.std.proofs.Common.{codes, Err, ◌∷◌, [], ◌≡◌, ℕ, zero, suc, ◌<◌, true, false, refl, arith}
use lib.Count.{count_trailing_zeros}
use Rattle.declarations.specs.Names.{all_name, listed}
use Rattle.declarations.specs.Declarations.{First, all_below, follow_on, sound}
use Rattle.declarations.specs.Rows.{rows_of, add_rows, mask_of, meets}
use Rattle.grammar.specs.Lawful.{depths_from}
use Rattle.refusals.specs.declared.Refusal.TheVariants.{NoWidest}
use Rattle.declarations.specs.Lines.{tail}
use Rattle.declarations.proofs.Determined.{all-names, all_listed, accepts_is}
use Rattle.kinds.proofs.Closed.{one_outcome}
use Rattle.kinds.proofs.Pairing.{first_pair}
use Rattle.joining.specs.Heap.{refers_in, kind_in, slot_in, follow, put_kind, put_refers, put_slot, put_new, emptied, new_cells}
use Rattle.joining.specs.Joining.{join_all, join_pair, join_ends, carry, carry_one, add_pair}
use Rattle.performing.specs.Performing.{narrowed, tied}
use Rattle.instructions.specs.Codes.{kinds, closes, entry_from, read_from, write_from}
use Rattle.instructions.specs.Steps as steps
use Rattle.osf.specs.Calls.{features_below}
use Rattle.osf.specs.Runs.{after_call, first_with, run}
use Rattle.worked.specs.Table.{Table, Declared, RefusedToClose, a_b_c_d}
use Rattle.worked.proofs.Saying.{all_say}

abcd_sound : sound a_b_c_d ≡ true
unfolding follow_on all_below all_name listed
abcd_sound = refl

rows_meet : (x y : ℕ) → x < 1 → y < 5 → x < y → meets 64 (rows_of a_b_c_d) x y ≡ true
unfolding add_rows mask_of count_trailing_zeros
rows_meet zero zero a b c = absurd (omega (arith, c))
rows_meet zero (suc zero) a b c = refl
rows_meet zero (suc (suc zero)) a b c = refl
rows_meet zero (suc (suc (suc zero))) a b c = refl
rows_meet zero (suc (suc (suc (suc zero)))) a b c = refl
rows_meet zero (suc (suc (suc (suc (suc y))))) a b c = absurd (omega (arith, b))
rows_meet (suc x) y a b c = absurd (omega (arith, a))

apart : meets 64 (rows_of a_b_c_d) 1 2 ≡ false
unfolding add_rows mask_of count_trailing_zeros
apart = refl

first : First a_b_c_d 1 2
first =
    first_pair a_b_c_d abcd_sound (omega arith) (1, 2)
    ((omega arith, omega arith, apart, λ y a b. absurd (omega (arith, a, b))), λ x l y a b. rows_meet x y l b a)

declared : Declared
unfolding tail listed all_name all-names all_listed
declared =
    record {
      a = accepts_is 64 _ (codes "a") (codes "any" ∷ []) refl;
      b = accepts_is 64 _ (codes "b") (codes "any" ∷ []) refl;
      c = accepts_is 64 _ (codes "c") (codes "a" ∷ codes "b" ∷ []) refl;
      d = accepts_is 64 _ (codes "d") (codes "a" ∷ codes "b" ∷ []) refl;
    }

refused : RefusedToClose (NoWidest 1 2)
refused before after r h = one_outcome a_b_c_d before before after (Err (NoWidest 1 2)) r ((1, 2, first, refl), refl) h

pub table : Table
unfolding digits run after_call first_with features_below depths_from closes kinds entry_from read_from write_from steps.entered steps.run narrowed tied refers_in kind_in slot_in follow put_kind put_refers put_slot put_new emptied new_cells join_all join_pair join_ends carry carry_one add_pair add_rows mask_of count_trailing_zeros
table =
    record {
      lines = all_say;
      one = refl;
      two_kind = refl;
      three_refers = refl;
      three_kind = refl;
      four_clash = refl;
      five_clash = refl;
      six = record { first = refl; second = refl; third = refl; fourth = refl; meet = refl; apart = refl };
      seven_lines = declared;
      seven_first = first;
      seven_refused = refused;
      eight_one_used = refl;
      eight_accepted = refl;
      eight_refused = refl;
    }
