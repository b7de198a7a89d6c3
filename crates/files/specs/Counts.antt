-- The line that tells how many lines a section has: one to three digits, as `0`, `12` or `003`.
--
-- Refused with 1 at 0: a line of over 1,000 bytes; a lawful count over the section's limit, as `64` where there may be 63.
-- Refused with 2: `x`, at 0; `12x`, at 2; `1000`, at 3; an empty line, at 0. `64x` breaks the grammar, so no count is read of it.
use Rattle.std.specs.Prelude.{◌≡◌, ℕ, ◌+◌, ◌*◌, ◌-◌, ◌<◌, ◌≤◌, Bool, true, ◌&&◌, ◌⊎◌, List, [], ◌∷◌, length, Ok, Err, Result, nat_le}
use Rattle.refusals.specs.declared.Refusal.{Refusal}
use Rattle.refusals.specs.Places.{Breaks}
use Rattle.refusals.specs.Table.{row}

abbrev pub digit : ℕ → Bool
digit b = nat_le 48 b && nat_le b 57

unfoldable pub all_digits : List ℕ → Bool
all_digits [] = true
all_digits (b ∷ bs) = digit b && all_digits bs

-- the number that digits write behind n
unfoldable pub value : ℕ → List ℕ → ℕ
value n [] = n
value n (b ∷ bs) = value (n * 10 + (b - 48)) bs

pub record Lawful (line : List ℕ) : Type 0 where
  pub digits : all_digits line ≡ true
  pub some : 1 ≤ length line
  pub few : length line ≤ 3

-- reason 1
abbrev pub TooMuch : ℕ → List ℕ → Type 0
TooMuch limit line = (1000 < length line) ⊎ (Lawful line × (limit < value 0 line))

-- a section's count, or the refusal of its line
abbrev pub Counts : ℕ → List ℕ → Result ℕ Refusal → Type 0
Counts limit line (Ok n) = Lawful line × (n ≡ value 0 line) × (n ≤ limit)
Counts limit line (Err e) =
    (TooMuch limit line × (row e ≡ record { number = 1; values = 0 ∷ [] }))
    ⊎ ((TooMuch limit line → ⊥) × (p : ℕ) × Breaks Lawful line p × (row e ≡ record { number = 2; values = p ∷ [] }))
