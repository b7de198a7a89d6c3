-- What is written among the first n cells and their slots: nothing comes to lead out of them, and what lies past them stays.
use Rattle.std.proofs.Common.{◌≡◌, ℕ, zero, suc, ◌+◌, ◌*◌, ◌<◌, ◌≤◌, List, length, get_or, set, drop, Some, None, Option, refl, sym, ap, ◌∙◌, subst, inl, inr, arith}
use Rattle.std.proofs.lemmas.Bool.{cases_eq, cases_lt}
use Rattle.std.proofs.lemmas.List.{get_or-set_same, get_or-set_other, set_past, drop-set-lt}
use Rattle.std.proofs.lemmas.Nat.{mul-add-lt}
use Rattle.std.proofs.lemmas.Option.{none-some, same_Some}
use Rattle.joining.specs.declared.cell.Cell.{Cell}
use Rattle.joining.specs.Heap.{refers_in, slot_in, put_kind, put_refers, put_slot, put_new, emptied}

module _ {K : Type 0} (top : K) (n : ℕ) (cells : List (Cell K)) where
  abbrev pub Refer : List (Cell K) → Type 0
  Refer cs = (i : ℕ) → i < n → refers_in top cs i < n

  module _ (r : Refer cells) (i : ℕ) (l : i < n) where
    refer_set : (c : Cell K) → c.refers < n → Refer (set cells i c)
    unfolding refers_in
    refer_set c b j k =
        elim (cases_eq j i) [
          | inr other ↦ subst (λ (d : Cell K). d.refers < n) (sym (get_or-set_other cells i j c (record { refers = j; kind = top }) other)) (r j k)
          | inl here ↦
              elim (cases_lt i (length cells)) [
                | inl in_it ↦ subst (λ (m : ℕ). (get_or (set cells i c) m (record { refers = m; kind = top })).refers < n) (sym here)
                    (subst (λ (d : Cell K). d.refers < n) (sym (get_or-set_same cells i c (record { refers = i; kind = top }) in_it)) b)
                | inr past ↦ subst Refer (sym (set_past cells i c past)) r j k
              ]
        ]

    pub refer_kind : (k : K) → Refer (put_kind top cells i k) × (drop n (put_kind top cells i k) ≡ drop n cells)
    unfolding put_kind
    refer_kind k = (refer_set _ (r i l), drop-set-lt n cells i _ l)

    pub refer_refers : (j : ℕ) → j < n → Refer (put_refers top cells i j) × (drop n (put_refers top cells i j) ≡ drop n cells)
    unfolding put_refers
    refer_refers j b = (refer_set _ b, drop-set-lt n cells i _ l)

    pub refer_new : Refer (put_new top cells i) × (drop n (put_new top cells i) ≡ drop n cells)
    unfolding put_new
    refer_new = (refer_set _ l, drop-set-lt n cells i _ l)

module _ (n features : ℕ) where
  abbrev pub Lead : List (Option ℕ) → Type 0
  Lead slots = (i f j : ℕ) → i < n → f < features → slot_in slots features i f ≡ Some j → j < n

  lead_set : (slots : List (Option ℕ)) → Lead slots → (p : ℕ) (o : Option ℕ) → ((j : ℕ) → o ≡ Some j → j < n) → Lead (set slots p o)
  unfolding slot_in
  lead_set slots r p o b i f j l lf e =
      elim (cases_eq (i * features + f) p) [
        | inr other ↦ r i f j l lf (sym (get_or-set_other slots p (i * features + f) o None other) ∙ e)
        | inl here ↦
            elim (cases_lt p (length slots)) [
              | inl in_it ↦ b j (sym (get_or-set_same slots p o None in_it) ∙ sym (ap (λ (k : ℕ). get_or (set slots p o) k None) here) ∙ e)
              | inr past ↦ r i f j l lf (sym (ap (λ (xs : List (Option ℕ)). get_or xs (i * features + f) None) (set_past slots p o past)) ∙ e)
            ]
      ]

  module _ (slots : List (Option ℕ)) (r : Lead slots) (i : ℕ) (l : i < n) where
    place : (f : ℕ) → f < features → i * features + f < n * features
    place f lf = omega (arith, mul-add-lt i features f n l lf)

    pub lead_slot : (f j : ℕ) → f < features → j < n → Lead (put_slot slots features i f j) × (drop (n * features) (put_slot slots features i f j) ≡ drop (n * features) slots)
    unfolding put_slot
    lead_slot f j lf b =
        (lead_set slots r (i * features + f) (Some j) (λ k e. subst (λ (x : ℕ). x < n) (same_Some j k e) b), drop-set-lt (n * features) slots (i * features + f) (Some j) (place f lf))

    pub lead_emptied : (k : ℕ) → k ≤ features
        → Lead (emptied slots (i * features) k) × (drop (n * features) (emptied slots (i * features) k) ≡ drop (n * features) slots)
    unfolding emptied
    lead_emptied zero b = (r, refl)
    lead_emptied (suc k) b =
        let before = lead_emptied k (omega arith) in (
          lead_set (emptied slots (i * features) k) before.0 (i * features + k) None (λ j e. absurd (none-some j e)),
          drop-set-lt (n * features) (emptied slots (i * features) k) (i * features + k) None (place k (omega arith)) ∙ before.1,
        )
