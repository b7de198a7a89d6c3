-- What entering, matching and joining answer and leave, one outcome after the other.
use Rattle.std.proofs.Common.{◌≡◌, ℕ, ◌*◌, ◌||◌, false, List, [], ◌++◌, length, take, drop, nat_le, Some, Ok, Err, Option, Result, sym, ap, ◌∙◌, subst}
use Rattle.refusals.specs.declared.Refusal.{Refusal}
use Rattle.orders.specs.Meaning.{Meaning}
use Rattle.joining.specs.declared.cell.Cell.{Cell}
use Rattle.joining.specs.Heap.{Heap}
use Rattle.joining.specs.Joining.{join}
use Rattle.performing.specs.Performing.{State}
use Rattle.osf.specs.Calls.{Lent, Left, too_short_for, refused, accepted}
use Rattle.cases.specs.declared.case.Case.{Case}
use Rattle.cases.specs.Memory.{heap_in}
use Rattle.cases.specs.Calls.{over, with_used, heap_of, join_of, Kept}
use Rattle.cases.proofs.Parts.{first_part}
use Rattle.cases.proofs.JoinOf.{as_it_was, in_use, whole_cells, whole_slots}

module _ {K : Type 0} (case : Case) (cells : List (Cell K)) (slots : List (Option ℕ)) (places : List ℕ) where
  abbrev h : Heap K
  h = heap_of case cells slots

  -- what a call leaves is there, with this answer
  pub record Leaves (x : Left K) (answer : Result ℕ Refusal) (new_case : Case) (new_cells : List (Cell K)) (new_slots : List (Option ℕ)) (new_places : List ℕ) : Type 0 where
    pub answered : answer ≡ x.answer
    pub kept : Kept x case cells slots new_case new_cells new_slots new_places
    pub heap : x.heap ≡ heap_of new_case new_cells new_slots

  pub leaves_refused : (e : Refusal) (x : Left K) → x ≡ refused e h places → Leaves x (Err e) case cells slots places
  leaves_refused e x q =
      let was = as_it_was case cells slots e places x q in
      record {
        answered = sym (ap (λ (y : Left K). y.answer) q);
        kept = (sym (ap (λ (y : Left K). with_used case y.heap.used) q), (was.0, (was.1, sym (ap (λ (y : Left K). y.places) q))));
        heap = ap (λ (y : Left K). y.heap) q;
      }

  -- a part of as many cells and slots as the case, before the rest of the memory, is the case's heap
  pub part_first : (size used : ℕ) → size ≡ case.cells * case.features → (part_cells : List (Cell K)) (part_slots : List (Option ℕ))
      → length part_cells ≡ case.cells → length part_slots ≡ size
      → heap_in used case.features part_cells part_slots ≡ heap_of (with_used case used) (part_cells ++ drop case.cells cells) (part_slots ++ drop size slots)
  part_first size used rows part_cells part_slots all_cells all_slots =
      ap (λ (cs : List (Cell K)). heap_in used case.features cs part_slots) (sym (first_part case.cells part_cells (drop case.cells cells) all_cells))
      ∙ ap (λ (ts : List (Option ℕ)). heap_in used case.features (take case.cells (part_cells ++ drop case.cells cells)) ts)
      (sym (first_part (case.cells * case.features) part_slots (drop size slots) (all_slots ∙ rows)))

  module _ (x : Left K) (s : State K) (q : x ≡ accepted s places) (size used : ℕ) (rows : size ≡ case.cells * case.features)
      (part_cells : List (Cell K)) (part_slots : List (Option ℕ)) (new_places : List ℕ)
      (all_cells : length part_cells ≡ case.cells) (all_slots : length part_slots ≡ size)
      (heap : s.heap ≡ heap_in used case.features part_cells part_slots) (listed : new_places ≡ over s.places places) where
    part_heap : x.heap ≡ heap_in used case.features part_cells part_slots
    part_heap = ap (λ (y : Left K). y.heap) q ∙ heap

    over_part : {X : Type 0} (xs before : List X) (n : ℕ) → length xs ≡ n → xs ++ drop n before ≡ over xs before
    over_part xs before n e = ap (λ (k : ℕ). xs ++ drop k before) (sym e)

    accepted_with_used : Leaves x (Ok used) (with_used case used) (part_cells ++ drop case.cells cells) (part_slots ++ drop size slots) new_places
    accepted_with_used =
        record {
          answered = sym (ap (λ (y : Left K). y.answer) q ∙ ap (λ (g : Heap K). Ok g.used) heap);
          kept = (
            sym (ap (λ (g : Heap K). with_used case g.used) part_heap),
            (
              over_part part_cells cells case.cells all_cells ∙ sym (ap (λ (g : Heap K). over g.cells cells) part_heap),
              (
                over_part part_slots slots size all_slots ∙ sym (ap (λ (g : Heap K). over g.slots slots) part_heap),
                listed ∙ sym (ap (λ (y : Left K). y.places) q),
              ),
            ),
          );
          heap = part_heap ∙ part_first size used rows part_cells part_slots all_cells all_slots;
        }

    pub leaves_accepted : (new_case : Case) → new_case ≡ with_used case used
        → Leaves x (Ok used) new_case (part_cells ++ drop case.cells cells) (part_slots ++ drop size slots) new_places
    leaves_accepted new_case e =
        subst (λ (k : Case). Leaves x (Ok used) k (part_cells ++ drop case.cells cells) (part_slots ++ drop size slots) new_places) (sym e) accepted_with_used

-- the same of a join
module _ {K : Type 0} (m : Meaning K) (l : Lent) (case : Case) (i j : ℕ) (cells : List (Cell K)) (slots : List (Option ℕ))
    (lent_cells : l.cells ≡ length cells) (lent_slots : l.slots ≡ length slots) (enough : too_short_for case.cells case.features l ≡ false)
    (used : (nat_le case.used i || nat_le case.used j) ≡ false) (size : ℕ) (rows : size ≡ case.cells * case.features) where
  pub joined_whole : (new_cells : List (Cell K)) (new_slots : List (Option ℕ)) → length new_cells ≡ length (take case.cells cells) → length new_slots ≡ length (take size slots)
      → join m i j (heap_in case.used case.features (take case.cells cells) (take size slots)) ≡ Some (heap_in case.used case.features new_cells new_slots)
      → (join_of m l case i j cells slots).heap ≡ heap_of case (new_cells ++ drop case.cells cells) (new_slots ++ drop size slots)
  joined_whole new_cells new_slots many_cells many_slots e =
      ap (λ (x : Left K). x.heap) (in_use m l case i j cells slots lent_cells lent_slots enough used size rows _ e)
      ∙ part_first case cells slots [] size case.used rows new_cells new_slots
      (many_cells ∙ whole_cells case cells slots l lent_cells lent_slots enough)
      (many_slots ∙ whole_slots case cells slots l lent_cells lent_slots enough size rows)
