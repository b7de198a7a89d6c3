-- A text that is read whole is a kind's text, and any other text is none's.
use Rattle.std.proofs.Common.{◌≡◌, ℕ, cond, eqb, List, [], ◌++◌, length, Some, None, Option, sym, ap, ◌∙◌, subst, inl, inr, arith, length-append}
use Rattle.std.proofs.lemmas.List.{append-nil, nil_from_length}
use Rattle.std.proofs.lemmas.Bool.{cases_eq, cond-true, cond-false, eq-eqb, ne_eqb}
use Rattle.orders.specs.Texts.{Texts, Stands, Back}
use Rattle.orders.specs.Whole.{NoKind, OnlyKind, KindOf}

module _ {K : Type 0} (m : Texts K) (t : List ℕ) where
  back_whole : (r : Option (K × ℕ)) → Back m t r → (k : K) → m.text k ≡ Some t → r ≡ Some (k, length t)
  back_whole r back k e = back k t [] e tt (sym (append-nil t))

  none_reads : Back m t None → NoKind m t
  none_reads back k text =
      let z : ◌≡◌ {A = ℕ} 0 1 = cc (back_whole None back k text) in
      omega arith

  short_reads : (k : K) (n : ℕ) → (n ≡ length t → ⊥) → Back m t (Some (k, n)) → NoKind m t
  short_reads k n ne back l text =
      let p : ◌≡◌ {A = K × ℕ} (k, n) (l, length t) = cc (back_whole (Some (k, n)) back l text) in
      ne (ap (λ q. q.1) p)

  whole_reads : (k : K) (n : ℕ) → n ≡ length t → Back m t (Some (k, n)) → Stands m t k n → OnlyKind m t k
  whole_reads k n e back s =
      let none : s.rest ≡ [] =
      nil_from_length s.rest (omega (arith, s.count, ap length s.whole, length-append s.front s.rest)) in
      let is : s.front ≡ t = sym (s.whole ∙ ap (λ x. s.front ++ x) none ∙ append-nil s.front) in
      (s.text ∙ ap Some is, λ j text. let p : ◌≡◌ {A = K × ℕ} (k, n) (j, length t) = cc (back_whole (Some (k, n)) back j text) in sym (ap (λ q. q.0) p))

  -- nothing was read
  pub none_read : (r : Option K) → r ≡ None → Back m t None → KindOf m t r
  none_read r e back = subst (KindOf m t) (sym e) (none_reads back)

  -- a kind was read, from n of the bytes
  pub kind_read : (r : Option K) (k : K) (n : ℕ) → r ≡ cond (eqb n (length t)) (Some k) None → Back m t (Some (k, n)) → Stands m t k n → KindOf m t r
  kind_read r k n e back s =
      elim (cases_eq n (length t)) [
        | inl h ↦ subst (KindOf m t) (sym (e ∙ cond-true _ (Some k) None (eq-eqb n (length t) h))) (whole_reads k n h back s)
        | inr ne ↦ subst (KindOf m t) (sym (e ∙ cond-false _ (Some k) None (ne_eqb n (length t) ne))) (short_reads k n ne back)
      ]
