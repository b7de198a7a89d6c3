-- What stands in cells and slots after a write.
use Rattle.std.proofs.Common.{List, None, Option, Some, ap, arith, inl, inr, length, mul_comm, refl, set, suc, sym, zero, ℕ, ◌%◌, ◌*◌, ◌+◌, ◌/◌, ◌<◌, ◌∙◌, ◌≡◌, ◌≢◌, ◌≤◌, ◌⊎◌}
use Rattle.std.proofs.lemmas.Bool.{cases_eq}
use Rattle.std.proofs.lemmas.List.{get_or-set_other, get_or-set_same, length-set}
use Rattle.std.proofs.lemmas.Nat.{div-mul-add, mod-mul-add, mul-add-lt}
use Rattle.joining.specs.Heap.{emptied, kind_in, put_kind, put_new, put_refers, put_slot, refers_in, slot_in}
use Rattle.joining.specs.declared.cell.Cell.{Cell}

module _ {K : Type 0} (top : K) (cells : List (Cell K)) (i : ℕ) where
  set_refers_here : (c : Cell K) → i < length cells → refers_in top (set cells i c) i ≡ c.refers
  unfolding refers_in
  set_refers_here c l = ap (λ (x : Cell K). x.refers) (get_or-set_same cells i c (record { refers = i; kind = top }) l)

  set_refers_there : (c : Cell K) (j : ℕ) → j ≢ i → refers_in top (set cells i c) j ≡ refers_in top cells j
  unfolding refers_in
  set_refers_there c j ne = ap (λ (x : Cell K). x.refers) (get_or-set_other cells i j c (record { refers = j; kind = top }) ne)

  set_kind_here : (c : Cell K) → i < length cells → kind_in top (set cells i c) i ≡ c.kind
  unfolding kind_in
  set_kind_here c l = ap (λ (x : Cell K). x.kind) (get_or-set_same cells i c (record { refers = i; kind = top }) l)

  set_kind_there : (c : Cell K) (j : ℕ) → j ≢ i → kind_in top (set cells i c) j ≡ kind_in top cells j
  unfolding kind_in
  set_kind_there c j ne = ap (λ (x : Cell K). x.kind) (get_or-set_other cells i j c (record { refers = j; kind = top }) ne)

  pub put_kind_length : (k : K) → length (put_kind top cells i k) ≡ length cells
  unfolding put_kind
  put_kind_length k = length-set cells i _

  pub put_kind_refers : (k : K) (j : ℕ) → i < length cells → refers_in top (put_kind top cells i k) j ≡ refers_in top cells j
  unfolding put_kind
  put_kind_refers k j l = elim (cases_eq j i) [ inl e ↦ rw e (set_refers_here _ l) | inr n ↦ set_refers_there _ j n ]

  pub put_kind_here : (k : K) → i < length cells → kind_in top (put_kind top cells i k) i ≡ k
  unfolding put_kind
  put_kind_here k l = set_kind_here _ l

  pub put_kind_there : (k : K) (j : ℕ) → j ≢ i → kind_in top (put_kind top cells i k) j ≡ kind_in top cells j
  unfolding put_kind
  put_kind_there k j ne = set_kind_there _ j ne

  pub put_refers_length : (j : ℕ) → length (put_refers top cells i j) ≡ length cells
  unfolding put_refers
  put_refers_length j = length-set cells i _

  pub put_refers_here : (j : ℕ) → i < length cells → refers_in top (put_refers top cells i j) i ≡ j
  unfolding put_refers
  put_refers_here j l = set_refers_here _ l

  pub put_refers_there : (j n : ℕ) → n ≢ i → refers_in top (put_refers top cells i j) n ≡ refers_in top cells n
  unfolding put_refers
  put_refers_there j n ne = set_refers_there _ n ne

  pub put_refers_kind : (j n : ℕ) → i < length cells → kind_in top (put_refers top cells i j) n ≡ kind_in top cells n
  unfolding put_refers
  put_refers_kind j n l = elim (cases_eq n i) [ inl e ↦ rw e (set_kind_here _ l) | inr ne ↦ set_kind_there _ n ne ]

  pub put_new_length : length (put_new top cells i) ≡ length cells
  unfolding put_new
  put_new_length = length-set cells i _

  pub put_new_refers : i < length cells → refers_in top (put_new top cells i) i ≡ i
  unfolding put_new
  put_new_refers l = set_refers_here _ l

  pub put_new_refers_there : (j : ℕ) → j ≢ i → refers_in top (put_new top cells i) j ≡ refers_in top cells j
  unfolding put_new
  put_new_refers_there j ne = set_refers_there _ j ne

  pub put_new_kind : i < length cells → kind_in top (put_new top cells i) i ≡ top
  unfolding put_new
  put_new_kind l = set_kind_here _ l

  pub put_new_kind_there : (j : ℕ) → j ≢ i → kind_in top (put_new top cells i) j ≡ kind_in top cells j
  unfolding put_new
  put_new_kind_there j ne = set_kind_there _ j ne

-- two places of the rows are the same only in one row and one column
same_row : (w i f j g : ℕ) → f < w → g < w → i * w + f ≡ j * w + g → i ≡ j
same_row w i f j g lf lg e = sym (div-mul-add i w f lf) ∙ ap (λ n. n / w) e ∙ div-mul-add j w g lg

same_column : (w i f j g : ℕ) → f < w → g < w → i * w + f ≡ j * w + g → f ≡ g
same_column w i f j g lf lg e = sym (mod-mul-add i w f lf) ∙ ap (λ n. n % w) e ∙ mod-mul-add j w g lg

pub put_slot_length : (slots : List (Option ℕ)) (w i f j : ℕ) → length (put_slot slots w i f j) ≡ length slots
unfolding put_slot
put_slot_length slots w i f j = length-set slots _ _

module _ (slots : List (Option ℕ)) (w i f j : ℕ) (lf : f < w) where
  pub put_slot_here : (n : ℕ) → i < n → length slots ≡ n * w → slot_in (put_slot slots w i f j) w i f ≡ Some j
  unfolding slot_in put_slot
  put_slot_here n l e = get_or-set_same slots (i * w + f) (Some j) None (omega (arith, mul-add-lt i w f n l lf, mul_comm w n))

  pub put_slot_there : (k g : ℕ) → g < w → (k ≢ i) ⊎ (g ≢ f) → slot_in (put_slot slots w i f j) w k g ≡ slot_in slots w k g
  unfolding slot_in put_slot
  put_slot_there k g lg ne =
      let differs : k * w + g ≢ i * w + f = λ e. elim ne [ inl n ↦ n (same_row w k g i f lg lf e) | inr n ↦ n (same_column w k g i f lg lf e) ] in
      get_or-set_other slots (i * w + f) (k * w + g) (Some j) None differs

pub emptied_length : (slots : List (Option ℕ)) (start n : ℕ) → length (emptied slots start n) ≡ length slots
unfolding emptied
emptied_length slots start zero = refl
emptied_length slots start (suc n) = length-set (emptied slots start n) _ _ ∙ emptied_length slots start n

-- a row is empty once it is emptied; other rows stay; and an empty slot stays empty
module _ (slots : List (Option ℕ)) (w i : ℕ) where
  pub emptied_there : (n j f : ℕ) → n ≤ w → f < w → j ≢ i → slot_in (emptied slots (i * w) n) w j f ≡ slot_in slots w j f
  unfolding emptied slot_in
  emptied_there zero j f l lf ne = refl
  emptied_there (suc n) j f l lf ne =
      get_or-set_other (emptied slots (i * w) n) (i * w + n) (j * w + f) None None (λ e. ne (same_row w j f i n lf (omega arith) e))
      ∙ emptied_there n j f (omega arith) lf ne

  pub emptied_here : (n f rows : ℕ) → n ≤ w → f < n → i < rows → length slots ≡ rows * w → slot_in (emptied slots (i * w) n) w i f ≡ None
  unfolding emptied slot_in
  emptied_here zero f rows l lf li e = absurd (omega arith)
  emptied_here (suc n) f rows l lf li e =
      let whole = emptied_length slots (i * w) n in
      let fits = mul-add-lt i w n rows li (omega arith) in
      elim (cases_eq f n) [
        | inl q ↦ rw q (get_or-set_same (emptied slots (i * w) n) (i * w + n) None None (omega (arith, mul_comm w rows)))
        | inr q ↦
            get_or-set_other (emptied slots (i * w) n) (i * w + n) (i * w + f) None None (λ s. q (omega arith))
            ∙ emptied_here n f rows (omega arith) (omega arith) li e
      ]
