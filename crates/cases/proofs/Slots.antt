-- A slot that is read, filled or emptied, within the memory and past it.
use Rattle.std.proofs.Common.{◌≡◌, ℕ, ◌+◌, ◌*◌, ◌≤◌, List, length, get_or, set, Some, None, Option, sym, ap, ◌∙◌, add-one}
use Rattle.std.proofs.lemmas.List.{get_or_past, set_past}
use Rattle.joining.specs.Heap.{slot_in, put_slot, emptied}

module _ (slots : List (Option ℕ)) (features i f : ℕ) where
  pub slot_at : (n : ℕ) → n ≡ i * features + f → get_or slots n None ≡ slot_in slots features i f
  unfolding slot_in
  slot_at n e = ap (λ (n : ℕ). get_or slots n None) e

  pub slot_past : length slots ≤ i * features + f → None ≡ slot_in slots features i f
  unfolding slot_in
  slot_past l = sym (get_or_past slots _ None l)

  pub put_slot_at : (j n : ℕ) → n ≡ i * features + f → set slots n (Some j) ≡ put_slot slots features i f j
  unfolding put_slot
  put_slot_at j n e = ap (λ (n : ℕ). set slots n (Some j)) e

  pub put_slot_past : (j : ℕ) → length slots ≤ i * features + f → slots ≡ put_slot slots features i f j
  unfolding put_slot
  put_slot_past j l = sym (set_past slots _ _ l)

module _ (slots now : List (Option ℕ)) (start n : ℕ) (so_far : now ≡ emptied slots start n) where
  -- one more slot is emptied
  emptied_more : set now (start + n) None ≡ emptied slots start (n + 1)
  unfolding emptied
  emptied_more = ap (λ (l : List (Option ℕ)). set l (start + n) None) so_far ∙ sym (ap (emptied slots start) (add-one n))

  pub emptied_at : (i : ℕ) → i ≡ start + n → set now i None ≡ emptied slots start (n + 1)
  emptied_at i e = ap (λ (i : ℕ). set now i None) e ∙ emptied_more

  pub emptied_past : length now ≤ start + n → now ≡ emptied slots start (n + 1)
  emptied_past l = sym (set_past now _ None l) ∙ emptied_more

pub emptied_none : (slots : List (Option ℕ)) (start : ℕ) → slots ≡ emptied slots start 0
unfolding emptied
emptied_none slots start = λ _. slots
