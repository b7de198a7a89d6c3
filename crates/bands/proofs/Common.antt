-- The common kind, case by case, from what `==` on kinds tells.
use Rattle.std.proofs.Common.{◌≡◌, Bool, true, false, ◌&&◌, ℤ, int_eq, Some, None, Option, sym, refl}
use Rattle.std.proofs.lemmas.Bool.Decides.{Decides-int_eq, same_from_decides}
use Rattle.std.proofs.Math.Bool.{or-true}
use Rattle.bands.specs.declared.band.Band.{Band}
use Rattle.bands.specs.Bands.{equal, same, widest, is_band, meet, common}
use Rattle.bands.specs.Rules.{equal_true, equal_itself}

equal_is : (x y : ℤ) → equal x y ≡ int_eq x y
equal_is x y = same_from_decides (equal x y) (int_eq x y) (equal_true x y, λ e. rw e (equal_itself y)) (Decides-int_eq x y)

-- what `==` on kinds answers
abbrev eq : Band → Band → Bool
eq a b = int_eq a.low b.low && int_eq a.high b.high

pub alike : (a b : Band) → true ≡ eq a b → same a b ≡ true
alike a b h = rw (equal_is a.low b.low, equal_is a.high b.high) (sym h)

pub unlike : (a b : Band) → false ≡ eq a b → same a b ≡ false
unlike a b h = rw (equal_is a.low b.low, equal_is a.high b.high) (sym h)

pub when_alike : (a b : Band) → true ≡ eq a b → Some a ≡ common a b
when_alike a b h = rw (alike a b h) refl

pub when_widest : (a b : Band) → true ≡ eq b widest → Some a ≡ common a b
when_widest a b h = rw (alike b widest h, or-true (same a b)) refl

pub when_first_widest : (a b : Band) → false ≡ eq a b → false ≡ eq b widest → true ≡ eq a widest → Some b ≡ common a b
when_first_widest a b d n h = rw (unlike a b d, unlike b widest n, alike a widest h) refl

pub when_no_band : (a b : Band) → false ≡ eq a b → false ≡ eq b widest → false ≡ eq a widest → false ≡ (is_band a && is_band b) → None ≡ common a b
when_no_band a b d n m h = rw (unlike a b d, unlike b widest n, unlike a widest m, sym h) refl

pub when_bands : (a b : Band) (r : Option Band) → false ≡ eq a b → false ≡ eq b widest → false ≡ eq a widest → true ≡ is_band a → true ≡ is_band b → r ≡ meet a b → r ≡ common a b
when_bands a b r d n m h i e = rw (unlike a b d, unlike b widest n, unlike a widest m, sym h, sym i) e

-- the answer of `common` in each of its cases
pub ruleset common_cases = (when_alike, when_widest, when_first_widest, when_no_band, when_bands)
