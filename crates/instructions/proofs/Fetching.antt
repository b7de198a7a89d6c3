-- The present instruction of a code, by what is left of the code.
use Rattle.std.proofs.Common.{◌≡◌, ℕ, zero, suc, ◌+◌, List, [], ◌∷◌, ◌++◌, length, drop, Some, None, sym, refl, ap, ◌∙◌, add-one}
use Rattle.std.proofs.lemmas.List.{drop-drop, drop_at}
use Rattle.std.specs.Prelude.{slice_get}

module _ {X : Type 0} where
  pub get_first : (xs : List X) (i : ℕ) (x : X) (ys : List X) → drop i xs ≡ x ∷ ys → slice_get xs i ≡ Some x
  get_first [] zero x ys e = cc
  get_first [] (suc i) x ys e = cc
  get_first (z ∷ zs) zero x ys e = cc
  get_first (z ∷ zs) (suc i) x ys e = get_first zs i x ys e

  pub get_none : (xs : List X) (i : ℕ) → drop i xs ≡ [] → slice_get xs i ≡ None
  get_none [] i e = refl
  get_none (z ∷ zs) zero e = cc
  get_none (z ∷ zs) (suc i) e = get_none zs i e

  pub past_first : (xs : List X) (i : ℕ) (x : X) (ys : List X) → drop i xs ≡ x ∷ ys → drop (suc i) xs ≡ ys
  past_first xs i x ys e = ap (λ n. drop n xs) (sym (add-one i)) ∙ sym (drop-drop 1 i xs) ∙ ap (drop 1) e

  pub past_front : (xs : List X) (i : ℕ) (ys zs : List X) → drop i xs ≡ ys ++ zs → drop (i + length ys) xs ≡ zs
  past_front xs i ys zs e = sym (drop-drop (length ys) i xs) ∙ ap (drop (length ys)) e ∙ drop_at ys zs (length ys) refl
