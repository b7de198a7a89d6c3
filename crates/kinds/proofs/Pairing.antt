-- Pairs of kinds by their rows.
use Rattle.std.proofs.Common.{◌≡◌, ℕ, ◌<◌, ◌≤◌, true, List, length, Some, None, sym, subst, inl, inr, arith}
use Rattle.std.proofs.lemmas.Bool.{cases_lt}
use Rattle.declarations.specs.Declarations.{Declaration, NoWidest, First, sound}
use Rattle.declarations.specs.Rows.{rows_of, meets, closed}
use Rattle.declarations.proofs.Grown.{rows_right}
use Rattle.declarations.proofs.Closing.{not_meets, meets_not, closed_pairs}
use Rattle.declarations.proofs.Ordered.{common_holds, strays_common, common_not}
use Rattle.kinds.specs.Model.{FirstPair}

module _ (ds : List Declaration) (ok : sound ds ≡ true) (few : length ds ≤ 64) where
  -- a pair that meets has a widest kind under both, or none at all; so has a pair with a number past the last kind
  meets-apart : (x y : ℕ) → (y < length ds → meets 64 (rows_of ds) x y ≡ true) → x < y → NoWidest ds x y → ⊥
  meets-apart x y h l w =
      elim (cases_lt y (length ds)) [
        | inl m ↦ meets_not 64 ds (rows_of ds) ok (rows_right ds ok) few x y (omega arith) m (h m) w
        | inr g ↦ common_not ds x y _ (strays_common ds ok x y (inr (omega arith))) w
      ]

  pub first_pair : (p : ℕ × ℕ) → FirstPair ds (Some p) → First ds p.0 p.1
  first_pair (a, b) f =
      let (l, m, apart, same) = f.0 in
      record {
        order = l;
        apart = not_meets 64 ds (rows_of ds) ok (rows_right ds ok) few a b (omega arith) m apart;
        first = λ x y lt o w.
            elim o [
              | inl h ↦ meets-apart x y (λ k. f.1 x h y lt k) lt w
              | inr h ↦ meets-apart x y (λ k. subst (λ z. meets 64 (rows_of ds) z y ≡ true) (sym h.0) (same y (omega (arith, h.0)) h.1)) lt w
            ];
      }

  module _ (meet : FirstPair ds None) where
    pub all_meet : closed 64 (rows_of ds) ≡ true
    all_meet = closed_pairs 64 ds (rows_of ds) ok (rows_right ds ok) few (λ x y l m. meet x (omega arith) y l m)

    pub none_apart : (a b : ℕ) → NoWidest ds a b → ⊥
    none_apart a b = common_not ds a b _ (common_holds 64 ds (rows_of ds) ok (rows_right ds ok) few all_meet a b)
