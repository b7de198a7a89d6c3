-- A case as it is opened is in order: no cell is in use, and all are as `push` leaves them.
use Rattle.std.proofs.Common.{None, Option, [], ap, arith, get_or, inl, inr, length, refl, replicate, suc, sym, zero, ℕ, ◌*◌, ◌++◌, ◌+◌, ◌<◌, ◌∙◌, ◌∷◌, ◌≡◌}
use Rattle.std.proofs.lemmas.Bool.{cases_lt, cases_order}
use Rattle.std.proofs.lemmas.List.{get_or-replicate, get_or_append_left, get_or_past, get_or_push, length-append, length-replicate}
use Rattle.joining.specs.Good.{Good}
use Rattle.joining.specs.Heap.{Heap, kind, kind_in, new_cell, new_cells, opened, refers, refers_in, slot, slot_in}
use Rattle.joining.specs.declared.cell.Cell.{Cell}

pub good_opened : {K : Type 0} (top : K) (h : Heap K) → h.used ≡ 0 → length h.slots ≡ length h.cells * h.features
    → ((i : ℕ) → refers top h i ≡ i) → ((i : ℕ) → kind top h i ≡ top) → ((i f : ℕ) → f < h.features → slot h i f ≡ None) → Good top h
good_opened top h none size rs ks ss = record {
  room = omega arith;
  size = size;
  inside = λ i l. absurd (omega arith);
  reaches = λ i l. absurd (omega arith);
  held = λ i f j l lf e. absurd (omega arith);
  fresh_refers = λ i l. rs i;
  fresh_kind = λ i l. ks i;
  fresh_slot = λ i f l lf. ss i f lf;
}

new_cells_length : {K : Type 0} (top : K) (n : ℕ) → length (new_cells top n) ≡ n
unfolding new_cells
new_cells_length top zero = refl
new_cells_length top (suc n) = omega (arith, length-append (new_cells top n) (new_cell top n ∷ []), new_cells_length top n)

-- each of the new cells is what a cell past the memory is read as
new_cells_at : {K : Type 0} (top : K) (n i : ℕ) → get_or (new_cells top n) i (new_cell top i) ≡ new_cell top i
unfolding new_cells
new_cells_at top zero i = refl
new_cells_at top (suc n) i =
    elim (cases_order i n) [
      | inl e ↦ rw e (get_or_push (new_cells top n) (new_cell top n) (new_cell top n) n (new_cells_length top n))
      | inr o ↦
          elim o [
            | inl l ↦ get_or_append_left (new_cells top n) (new_cell top n ∷ []) (new_cell top i) i (omega (arith, new_cells_length top n)) ∙ new_cells_at top n i
            | inr l ↦ get_or_past (new_cells top n ++ new_cell top n ∷ []) i (new_cell top i) (omega (arith, length-append (new_cells top n) (new_cell top n ∷ []), new_cells_length top n))
          ]
    ]

empty_at : (n i : ℕ) → ◌≡◌ {A = Option ℕ} (get_or (replicate n None) i None) None
empty_at n i =
    elim (cases_lt i n) [
      | inl l ↦ get_or-replicate n i None None l
      | inr l ↦ get_or_past (replicate n None) i None (omega (arith, length-replicate {A = Option ℕ} n None))
    ]

pub opened_good : {K : Type 0} (top : K) (n features : ℕ) → Good top (opened top n features)
unfolding refers_in kind_in slot_in
opened_good {K} top n features =
    good_opened top (opened top n features) refl
    (length-replicate (n * features) None ∙ ap (λ l. l * features) (sym (new_cells_length top n)))
    (λ i. ap (λ (c : Cell K). c.refers) (new_cells_at top n i))
    (λ i. ap (λ (c : Cell K). c.kind) (new_cells_at top n i))
    (λ i f l. empty_at (n * features) (i * features + f))
