-- What a band is, when a kind is at or under another, and the common band of two.
use Rattle.std.specs.Prelude.{◌≡◌, Bool, true, cond, ◌&&◌, ◌||◌, ◌⊎◌, ℤ, pos, neg_ℤ, ◌≤ℤ◌, Some, None, Option}
use Rattle.std.specs.Int.Signed.{le_z}
use Rattle.std.specs.Int.{int_max, int_min}
use Rattle.bands.specs.declared.band.Band.{Band}

abbrev pub limit : ℤ
limit = pos 1000000000000

abbrev pub widest : Band
widest = record { low = neg_ℤ limit; high = limit }

-- the lowest is not above the highest, and both are within the limit
abbrev pub is_band : Band → Bool
is_band b = le_z (neg_ℤ limit) b.low && (le_z b.low b.high && le_z b.high limit)

abbrev pub IsBand : Band → Type 0
IsBand b = is_band b ≡ true

-- a kind is at or under itself and the widest, and a band is at or under each band that it lies within
abbrev pub Under : Band → Band → Type 0
Under a b = (a ≡ b) ⊎ ((b ≡ widest) ⊎ (IsBand a × IsBand b × (b.low ≤ℤ a.low) × (a.high ≤ℤ b.high)))

abbrev pub equal : ℤ → ℤ → Bool
equal x y = le_z x y && le_z y x

abbrev pub same : Band → Band → Bool
same a b = equal a.low b.low && equal a.high b.high

-- from the greater lowest to the lesser highest, if they meet
abbrev pub meet : Band → Band → Option Band
meet a b =
    cond (le_z (int_max a.low b.low) (int_min a.high b.high)) (Some (record { low = int_max a.low b.low; high = int_min a.high b.high })) None

abbrev pub common : Band → Band → Option Band
common a b =
    cond (same a b || same b widest) (Some a) (cond (same a widest) (Some b) (cond (is_band a && is_band b) (meet a b) None))
