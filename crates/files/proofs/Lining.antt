-- Lines that are taken one by one.
use Rattle.std.proofs.Common.{◌≡◌, ℕ, zero, suc, ◌+◌, ◌-◌, ◌<◌, List, Ok, Err, Result, refl, subst, arith}
use Rattle.refusals.specs.declared.Refusal.{Refusal}
use Rattle.files.specs.Lines.{Then, Lines}
use Rattle.files.specs.Model.{LineRead}

module _ {S : Type 0} (Takes : S → List ℕ → S → Result ℕ Refusal → Type 0) (file : List ℕ) where
  one_more : (n m at : ℕ) (p : ℕ × ℕ) (x y : S) (r : Result (S × ℕ) Refusal) → m ≡ suc n → LineRead Takes file at x y (Ok p) → Lines Takes file n p.1 y r → Lines Takes file m at x r
  unfolding Lines
  one_more n zero at p x y r e l h = absurd (omega (arith, e))
  one_more n (suc m) at p x y r e (a, t, o) h =
      let same : n ≡ m = omega (arith, e) in
      (y, a, t, subst (λ j. Then j (λ q. Lines Takes file m q.1 y r) r) o (subst (λ j. Lines Takes file j p.1 y r) same h))

  pub more : (n k at : ℕ) (p : ℕ × ℕ) (x y : S) (P : Result (S × ℕ) Refusal → Type 0) → k < n → LineRead Takes file at x y (Ok p) → ((r : Result (S × ℕ) Refusal) → Lines Takes file (n - k) at x r → P r)
      → (r : Result (S × ℕ) Refusal) → Lines Takes file (n - (k + 1)) p.1 y r → P r
  more n k at p x y P l o goes r h = goes r (one_more (n - (k + 1)) (n - k) at p x y r (omega (arith, l)) o h)

  same : {e : Refusal} → ◌≡◌ {A = Result (S × ℕ) Refusal} (Err e) (Err e)
  same = refl

  pub stopped : (n at : ℕ) (x y : S) (e : Refusal) → 0 < n → LineRead Takes file at x y (Err e) → Lines Takes file n at x (Err e)
  unfolding Lines
  stopped zero at x y e l o = absurd (omega (arith, l))
  stopped (suc n) at x y e l (a, t, o) = (y, a, t, subst (λ j. Then {B = S × ℕ} j (λ q. Lines Takes file n q.1 y (Err e)) (Err e)) o same)

  pub done : (n at : ℕ) (x : S) → n ≡ 0 → Lines Takes file n at x (Ok (x, at))
  unfolding Lines
  done zero at x e = refl
  done (suc n) at x e = absurd (omega (arith, e))
