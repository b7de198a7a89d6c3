-- A cell that is read or written, within the memory and past it; and following coreferences, a step on and at an end.
use Rattle.std.proofs.Common.{◌≡◌, ℕ, zero, suc, ◌+◌, ◌-◌, ◌<◌, ◌≤◌, List, length, get_or, set, refl, sym, ap, ◌∙◌, arith}
use Rattle.std.proofs.lemmas.List.{get_or_past, get_or_default, set_past}
use Rattle.joining.specs.declared.cell.Cell.{Cell}
use Rattle.joining.specs.Heap.{new_cell, refers_in, kind_in, follow, put_kind, put_refers, put_new}

module _ {K : Type 0} (top : K) (cells : List (Cell K)) (i : ℕ) where
  pub refers_past : length cells ≤ i → refers_in top cells i ≡ i
  unfolding refers_in
  refers_past l = ap (λ (c : Cell K). c.refers) (get_or_past cells i (new_cell top i) l)

  pub kind_past : length cells ≤ i → kind_in top cells i ≡ top
  unfolding kind_in
  kind_past l = ap (λ (c : Cell K). c.kind) (get_or_past cells i (new_cell top i) l)

  pub put_kind_past : (k : K) → length cells ≤ i → cells ≡ put_kind top cells i k
  unfolding put_kind
  put_kind_past k l = sym (set_past cells i _ l)

  pub put_refers_past : (j : ℕ) → length cells ≤ i → cells ≡ put_refers top cells i j
  unfolding put_refers
  put_refers_past j l = sym (set_past cells i _ l)

  pub put_new_past : length cells ≤ i → cells ≡ put_new top cells i
  unfolding put_new
  put_new_past l = sym (set_past cells i _ l)

  pub put_new_at : (k : K) → k ≡ top → set cells i (record { refers = i; kind = k }) ≡ put_new top cells i
  unfolding put_new
  put_new_at k e = ap (λ (k : K). set cells i (record { refers = i; kind = k })) e

  module _ (d : Cell K) (l : i < length cells) where
    pub refers_read : (get_or cells i d).refers ≡ refers_in top cells i
    unfolding refers_in
    refers_read = ap (λ (c : Cell K). c.refers) (get_or_default cells i d (new_cell top i) l)

    pub kind_read : (get_or cells i d).kind ≡ kind_in top cells i
    unfolding kind_in
    kind_read = ap (λ (c : Cell K). c.kind) (get_or_default cells i d (new_cell top i) l)

    pub put_kind_at : (k : K) → set cells i (record { refers = (get_or cells i d).refers; kind = k }) ≡ put_kind top cells i k
    unfolding put_kind
    put_kind_at k = ap (λ (n : ℕ). set cells i (record { refers = n; kind = k })) refers_read

    pub put_refers_at : (j : ℕ) → set cells i (record { refers = j; kind = (get_or cells i d).kind }) ≡ put_refers top cells i j
    unfolding put_refers
    put_refers_at j = ap (λ (k : K). set cells i (record { refers = j; kind = k })) kind_read

module _ (r : ℕ → ℕ) where
  -- with i of n steps done, one more
  pub follow_more : (n i at : ℕ) → i < n → follow r (n - (i + 1)) (r at) ≡ follow r (n - i) at
  unfolding follow
  follow_more n i at l =
      let e : suc (n - (i + 1)) ≡ n - i = omega arith in
      ap (λ (m : ℕ). follow r m at) e

  pub follow_done : (n at : ℕ) → n ≡ 0 → at ≡ follow r n at
  unfolding follow
  follow_done n at e = sym (ap (λ (m : ℕ). follow r m at) e)

  pub follow_stays : (n at : ℕ) → r at ≡ at → at ≡ follow r n at
  unfolding follow
  follow_stays zero at e = refl
  follow_stays (suc n) at e = follow_stays n at e ∙ sym (ap (follow r n) e)
