-- The line that declares a feature, and what it is refused for. `features` are those declared before it.
--
-- A line is the feature's name, as names of kinds are: `paid`, `back`, `paid_by2`.
-- Refused with 1 at 0: a line of over 1,000 bytes, a name of over 24, or a lawful line for a 17th feature.
-- Refused with 2: `Paid`, at 0; `paid by`, at 4; an empty line, at 0. Refused with 3 at 0: a feature that is declared before.
use Rattle.std.specs.Prelude.{◌≡◌, ℕ, ◌<◌, ◌≤◌, true, false, ◌⊎◌, List, [], ◌∷◌, ◌++◌, length, Ok, Err, Result}
use Rattle.refusals.specs.declared.Refusal.{Refusal}
use Rattle.refusals.specs.Places.{Breaks}
use Rattle.refusals.specs.Table.{row}
use Rattle.declarations.specs.Names.{is_name, listed}
use Rattle.declarations.specs.Lines.{LongName}

abbrev pub Lawful : List ℕ → Type 0
Lawful line = is_name line ≡ true

-- reason 1
abbrev pub TooMuch : List (List ℕ) → List ℕ → Type 0
TooMuch features line = (1000 < length line) ⊎ (LongName line ⊎ (Lawful line × (16 ≤ length features)))

-- the refusal of a line: its reasons by number, each where no earlier one holds
abbrev pub Refuses : List (List ℕ) → List ℕ → Refusal → Type 0
Refuses features line e =
    (TooMuch features line × (row e ≡ record { number = 1; values = 0 ∷ [] }))
    ⊎ (((TooMuch features line → ⊥) × (p : ℕ) × Breaks Lawful line p × (row e ≡ record { number = 2; values = p ∷ [] }))
    ⊎ ((TooMuch features line → ⊥) × Lawful line × (listed line features ≡ true) × (row e ≡ record { number = 3; values = 0 ∷ [] })))

pub record Accepts (features : List (List ℕ)) (line : List ℕ) : Type 0 where
  pub lawful : Lawful line
  pub within : TooMuch features line → ⊥
  pub fresh : listed line features ≡ false

-- declaring a line: the number of the new feature, or a refusal that leaves the features as they were
abbrev pub Declares : List (List ℕ) → List ℕ → List (List ℕ) → Result ℕ Refusal → Type 0
Declares features line after (Ok k) = Accepts features line × (k ≡ length features) × (after ≡ features ++ line ∷ [])
Declares features line after (Err e) = Refuses features line e × (after ≡ features)
