-- The texts of bands, and what reading an amount or a band says.
use Rattle.std.specs.Prelude.{◌≡◌, ◌↔◌, ℕ, Bool, cond, ◌&&◌, ◌||◌, ◌==◌, nat_le, List, ◌∷◌, ◌++◌, length, slice_index, ℤ, Some, None, Option, FitsSigned}
use Rattle.std.specs.Int.{w64}
use Rattle.std.specs.Fmt.{signed_decimal}
use Rattle.bands.specs.declared.band.Band.{Band}
use Rattle.bands.specs.Bands.{is_band}

-- the lowest, two points, the highest
abbrev pub written : Band → List ℕ
written b = signed_decimal b.low ++ 46 ∷ 46 ∷ signed_decimal b.high

abbrev pub text : Band → Option (List ℕ)
text b = cond (is_band b) (Some (written b)) None

-- a byte that may lead a number of more than one digit, and a text with no sign but a minus and no zero in front but that of 0 itself
abbrev pub leads : ℕ → Bool
leads b = nat_le 49 b && nat_le b 57

unfoldable pub plain : List ℕ → Bool
plain t = (length t == 1 && slice_index t 0 == 48) || leads (cond (slice_index t 0 == 45) (slice_index t 1) (slice_index t 0))

-- what is read is the one number whose text this is
abbrev pub ReadsNumber : List ℕ → Option ℤ → Type 0
ReadsNumber t r = (z : ℤ) → FitsSigned w64 z → (t ≡ signed_decimal z) ↔ (r ≡ Some z)

-- what is read is the one band whose text stands there
pub record ReadsText (t : List ℕ) (r : Option Band) : Type 0 where
  pub found : (b : Band) → text b ≡ Some t → r ≡ Some b
  pub stands : (b : Band) → r ≡ Some b → text b ≡ Some t
