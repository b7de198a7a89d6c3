-- A spare copy that is long enough holds as much as the case.
use Rattle.std.proofs.Common.{◌≡◌, ℕ, ◌*◌, ◌≤◌, false, List, length, take, nat_lt, Option, ◌+◌, refl, sym, ◌∙◌, length-take-le, arith, ltb-false}
use Rattle.std.proofs.lemmas.Bool.{or_parts}
use Rattle.joining.specs.declared.cell.Cell.{Cell}
use Rattle.osf.specs.Calls.{short_for, too_short_for}
use Rattle.cases.specs.declared.case.Case.{Case}
use Rattle.cases.specs.Calls.{lent}
use Rattle.cases.proofs.JoinOf.{whole_cells, whole_slots}

module _ {K : Type 0} (case : Case) (cells : List (Cell K)) (slots : List (Option ℕ)) (pending : List (ℕ × ℕ)) (spare_cells : List (Cell K)) (spare_slots : List (Option ℕ))
    (enough : too_short_for case.cells case.features (lent cells slots pending spare_cells spare_slots) ≡ false) where
  spare_long : (case.cells ≤ length spare_cells) × (case.cells * case.features ≤ length spare_slots)
  spare_long =
      let l = lent cells slots pending spare_cells spare_slots in
      let more = (or_parts (short_for case.cells case.features l) _ enough).1 in
      let spare = (or_parts (nat_lt l.pending (case.cells * case.features + 1)) _ more).1 in
      let few = or_parts (nat_lt l.spare_cells case.cells) _ spare in
      (omega (arith, ltb-false _ _ few.0), omega (arith, ltb-false _ _ few.1))

  pub spare_whole : (size : ℕ) → size ≡ case.cells * case.features
      → (length (take case.cells spare_cells) ≡ length (take case.cells cells)) × (length (take size spare_slots) ≡ length (take size slots))
  spare_whole size e =
      let l = lent cells slots pending spare_cells spare_slots in (
        length-take-le case.cells spare_cells spare_long.0 ∙ sym (whole_cells case cells slots l refl refl enough),
        length-take-le size spare_slots (omega (arith, spare_long.1)) ∙ sym (whole_slots case cells slots l refl refl enough size e),
      )
