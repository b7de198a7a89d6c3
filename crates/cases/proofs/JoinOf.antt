-- What joining two cells of a case answers and leaves, one outcome after the other.
use Rattle.std.proofs.Common.{◌≡◌, ℕ, ◌*◌, ◌≤◌, ◌||◌, true, false, List, [], ◌++◌, length, take, drop, nat_le, nat_lt, Some, Ok, Option, sym, ap, ◌∙◌, length-take-le, arith, ltb-false}
use Rattle.std.proofs.lemmas.Bool.{cond-true, cond-false, or_parts}
use Rattle.refusals.specs.declared.Refusal.{Refusal}
use Rattle.refusals.specs.declared.Refusal.TheVariants.{Memory, Clash}
use Rattle.refusals.specs.declared.Refusal.TheVariants as refusal
use Rattle.orders.specs.Meaning.{Meaning}
use Rattle.joining.specs.declared.cell.Cell.{Cell}
use Rattle.joining.specs.Heap.{Heap}
use Rattle.joining.specs.Joining.{join}
use Rattle.osf.specs.Calls.{Lent, Left, too_short, too_short_for, refused, joined_if}
use Rattle.cases.specs.declared.case.Case.{Case}
use Rattle.cases.specs.Memory.{heap_in}
use Rattle.cases.specs.Calls.{over, heap_of, join_of}
use Rattle.cases.proofs.Parts.{over_taken}

module _ {K : Type 0} (case : Case) (cells : List (Cell K)) (slots : List (Option ℕ)) where
  -- a refusal leaves all as it was
  pub as_it_was : (e : Refusal) (places : List ℕ) (x : Left K) → x ≡ refused e (heap_of case cells slots) places
      → (cells ≡ over x.heap.cells cells) × (slots ≡ over x.heap.slots slots)
  as_it_was e places x q = (
    sym (ap (λ (y : Left K). over y.heap.cells cells) q ∙ over_taken case.cells cells),
    sym (ap (λ (y : Left K). over y.heap.slots slots) q ∙ over_taken (case.cells * case.features) slots),
  )

  -- a memory that is long enough holds the whole case
  module _ (l : Lent) (many_cells : l.cells ≡ length cells) (many_slots : l.slots ≡ length slots) (enough : too_short_for case.cells case.features l ≡ false) where
    fits : (case.cells ≤ length cells) × (case.cells * case.features ≤ length slots)
    fits =
        let short = or_parts (nat_lt l.cells case.cells || nat_lt l.slots (case.cells * case.features)) _ enough in
        let few = or_parts (nat_lt l.cells case.cells) _ short.0 in
        (omega (arith, ltb-false _ _ few.0), omega (arith, ltb-false _ _ few.1))

    pub whole_cells : length (take case.cells cells) ≡ case.cells
    whole_cells = length-take-le case.cells cells fits.0

    pub whole_slots : (size : ℕ) → size ≡ case.cells * case.features → length (take size slots) ≡ size
    whole_slots size e = length-take-le size slots (omega (arith, fits.1))

module _ {K : Type 0} (m : Meaning K) (l : Lent) (case : Case) (i j : ℕ) (cells : List (Cell K)) (slots : List (Option ℕ)) where
  abbrev h : Heap K
  h = heap_of case cells slots

  pub short_memory : too_short_for case.cells case.features l ≡ true → join_of m l case i j cells slots ≡ refused Memory h []
  short_memory e = cond-true _ _ _ e

  module _ (lent_cells : l.cells ≡ length cells) (lent_slots : l.slots ≡ length slots) (enough : too_short_for case.cells case.features l ≡ false) where
    long_enough : too_short l h ≡ false
    long_enough = ap (λ (n : ℕ). too_short_for n case.features l) (whole_cells case cells slots l lent_cells lent_slots enough) ∙ enough

    pub not_in_use : (nat_le case.used i || nat_le case.used j) ≡ true → join_of m l case i j cells slots ≡ refused refusal.Cell h []
    not_in_use t = cond-false _ _ _ enough ∙ cond-false _ _ _ long_enough ∙ cond-true _ _ _ t

    module _ (used : (nat_le case.used i || nat_le case.used j) ≡ false) (size : ℕ) (rows : size ≡ case.cells * case.features) where
      abbrev part : Heap K
      part = heap_in case.used case.features (take case.cells cells) (take size slots)

      pub in_use : (o : Option (Heap K)) → join m i j part ≡ o → join_of m l case i j cells slots ≡ joined_if o h
      in_use o e =
          let q : join m i j h ≡ o = ap (λ (n : ℕ). join m i j (heap_in case.used case.features (take case.cells cells) (take n slots))) (sym rows) ∙ e in
          cond-false _ _ _ enough ∙ cond-false _ _ _ long_enough ∙ cond-false _ _ _ used ∙ ap (λ (o : Option (Heap K)). joined_if o h) q

      pub joined : (new_cells : List (Cell K)) (new_slots : List (Option ℕ)) → length new_cells ≡ length (take case.cells cells) → length new_slots ≡ length (take size slots)
          → join m i j part ≡ Some (heap_in case.used case.features new_cells new_slots)
          → (Ok case.used ≡ (join_of m l case i j cells slots).answer)
          × (new_cells ++ drop case.cells cells ≡ over (join_of m l case i j cells slots).heap.cells cells)
          × (new_slots ++ drop size slots ≡ over (join_of m l case i j cells slots).heap.slots slots)
      joined new_cells new_slots many_cells many_slots e =
          let q = in_use (Some (heap_in case.used case.features new_cells new_slots)) e in (
            sym (ap (λ (x : Left K). x.answer) q),
            ap (λ (n : ℕ). new_cells ++ drop n cells) (sym (many_cells ∙ whole_cells case cells slots l lent_cells lent_slots enough)) ∙ sym (ap (λ (x : Left K). over x.heap.cells cells) q),
            ap (λ (n : ℕ). new_slots ++ drop n slots) (sym (many_slots ∙ whole_slots case cells slots l lent_cells lent_slots enough size rows)) ∙ sym (ap (λ (x : Left K). over x.heap.slots slots) q),
          )
