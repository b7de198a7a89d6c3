-- The place of a line that is against its grammar, whatever the grammar: `Lawful` says which lines keep it.
use Rattle.std.specs.Prelude.{◌≡◌, ℕ, ◌+◌, ◌<◌, ◌⊎◌, List, ◌++◌, length, take}

-- some lawful line begins so
abbrev pub GoesOn : (List ℕ → Type 0) → List ℕ → Type 0
GoesOn Lawful front = (rest : List ℕ) × Lawful (front ++ rest)

-- p is the first byte at which no lawful line goes on, or the length of a line that only ends too early
abbrev pub Breaks : (List ℕ → Type 0) → List ℕ → ℕ → Type 0
Breaks Lawful line p =
    GoesOn Lawful (take p line)
    × (((p < length line) × (GoesOn Lawful (take (p + 1) line) → ⊥)) ⊎ ((p ≡ length line) × (Lawful line → ⊥)))
