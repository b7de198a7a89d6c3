-- The longest front of bytes that pass a test is one.
use Rattle.std.proofs.Common.{◌≡◌, ℕ, List, [], ◌∷◌, ◌++◌, take, drop, sym, refl, ◌∙◌}
use Rattle.std.specs.List.{AllByRecursion}
use Rattle.std.proofs.lemmas.List.{take-append-drop}

-- nothing, or a byte of which Q holds
abbrev pub Ends : (ℕ → Type 0) → List ℕ → Type 0
Ends Q [] = Unit {0}
Ends Q (b ∷ bs) = Q b

pub same_fronts : (P Q : ℕ → Type 0) → ((b : ℕ) → P b → Q b → ⊥) → (xs ys vs ws : List ℕ) → AllByRecursion P xs → Ends Q ys → AllByRecursion P vs → Ends Q ws → xs ++ ys ≡ vs ++ ws → xs ≡ vs
same_fronts P Q clash [] ys [] ws p q r s e = refl
same_fronts P Q clash [] ys (v ∷ vs) ws p q r s e = absurd (clash v r.0 (rw e at q))
same_fronts P Q clash (x ∷ xs) ys [] ws p q r s e = absurd (clash x p.0 (rw (sym e) at s))
same_fronts P Q clash (x ∷ xs) ys (v ∷ vs) ws p q r s e =
    let head : x ≡ v = cc in
    let tail : xs ++ ys ≡ vs ++ ws = cc in
    let rest : xs ≡ vs = same_fronts P Q clash xs ys vs ws p.1 q r.1 s tail in
    cc

-- n bytes pass, and the next does not: any front that passes, up to a byte that does not, is these bytes
pub front_is : (P Q : ℕ → Type 0) → ((b : ℕ) → P b → Q b → ⊥) → (bytes : List ℕ) (n : ℕ) → AllByRecursion P (take n bytes) → Ends Q (drop n bytes) → (t rest : List ℕ) → AllByRecursion P t → Ends Q rest → bytes ≡ t ++ rest → take n bytes ≡ t
front_is P Q clash bytes n p q t rest r s e = same_fronts P Q clash (take n bytes) (drop n bytes) t rest p q r s (take-append-drop n bytes ∙ e)
