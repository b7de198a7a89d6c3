-- The relation "at or under", from the declarations.
use Rattle.std.proofs.Common.{◌≡◌, ℕ, zero, suc, ◌≤◌, true, false, eqb, ◌⊎◌, List, [], ◌∷◌, length, refl, ap, inl, inr, arith}
use Rattle.std.proofs.lemmas.List.{get_or_past}
use Rattle.std.proofs.lemmas.Bool.{or_cases, eqb-true, both_ways, cases_lt}
use Rattle.declarations.specs.Declarations.{Declaration, stray, wider_of, among, Under, sound}
use Rattle.declarations.specs.Declarations.Under.{itself, above}
use Rattle.declarations.proofs.Sound.{earlier, some-wider}

pub under-through : (ds : List Declaration) {k l m : ℕ} → Under ds k l → Under ds l m → Under ds k m
under-through ds itself v = v
under-through ds (above a u) v = above a (under-through ds u v)

module _ (ds : List Declaration) (ok : sound ds ≡ true) where
  -- what is at or under a kind has no lower number
  pub under_le : {k l : ℕ} → Under ds k l → l ≤ k
  under_le itself = omega arith
  under_le {k} {l} (above {w = w} a u) = omega (arith, earlier ds ok k w a, under_le u)

  pub under_same : (k l : ℕ) → Under ds k l → Under ds l k → k ≡ l
  under_same k l u v = omega (arith, under_le u, under_le v)

  any-within : (n k : ℕ) → k ≤ n → Under ds k 0
  any-within zero k l = let e : k ≡ 0 = omega arith in rw e itself
  any-within (suc n) k l =
      elim (cases_lt 0 k) [
        | inl p ↦ let (w, a) = some-wider ds ok k p in above a (any-within n w (omega (arith, earlier ds ok k w a)))
        | inr z ↦ let e : k ≡ 0 = omega arith in rw e itself
      ]

  -- every number is at or under `any`
  pub under-any : (k : ℕ) → Under ds k 0
  under-any k = any-within k k (omega arith)

  -- a number past the last kind is at or under itself and `any` only
  pub stray-under : (k l : ℕ) → length ds ≤ k → Under ds k l → (l ≡ k) ⊎ (l ≡ 0)
  unfolding among
  stray-under k l g itself = inl refl
  stray-under k l g (above {w = w} a u) =
      let e : wider_of ds k ≡ 0 ∷ [] = ap (λ d. d.wider) (get_or_past ds k stray g) in
      elim (or_cases (eqb w 0) false (rw e at a)) [
        | inl z ↦ inr (omega (arith, eqb-true w 0 z, under_le u))
        | inr z ↦ absurd (both_ways false refl z)
      ]
