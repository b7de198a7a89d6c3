-- The variable of a cell that a call pushed is one that has the cell.
use Rattle.std.proofs.Common.{◌≡◌, ℕ, zero, suc, ◌+◌, ◌<◌, Bool, true, false, cond, ◌==◌, List, [], ◌∷◌, length, slice_index, refl, sym, arith}
use Rattle.std.proofs.lemmas.Bool.{eqb-true, eqb-false}
use Rattle.osf.specs.Runs.{first_with}

-- the number of a variable among those numbered from x on
abbrev pub Owns : ℕ → ℕ → List ℕ → ℕ → Type 0
Owns i x js v = (z : ℕ) × (z < length js) × (v ≡ x + z) × (slice_index js z ≡ i)

pub first_owns : (i x : ℕ) (js : List ℕ) (y : ℕ) → y < length js → slice_index js y ≡ i → Owns i x js (first_with i x js)
unfolding first_with
first_owns i x [] y l e = absurd (omega (arith, l))
first_owns i x (j ∷ js) y l e = go (i == j) refl y l e (λ z. first_owns i (suc x) js z) where
  go : (b : Bool) → (i == j) ≡ b → (y : ℕ) → y < length (j ∷ js) → slice_index (j ∷ js) y ≡ i
      → ((z : ℕ) → z < length js → slice_index js z ≡ i → Owns i (suc x) js (first_with i (suc x) js)) → Owns i x (j ∷ js) (cond b x (first_with i (suc x) js))
  go true t y l e rest = (0, omega arith, omega arith, sym (eqb-true i j t))
  go false t zero l e rest = absurd (eqb-false i j t (sym e))
  go false t (suc y) l e rest =
      let (z, m, v, w) = rest y (omega (arith, l)) e in
      (suc z, omega (arith, m), omega (arith, v), w)
