-- What narrowing answers for a line, whatever its bytes.
--
-- Refused with 1 at 0: a line of over 1,000 bytes.
-- Refused with 2: a line against the grammar, at the place where it breaks.
-- Refused with 4: a text that no kind has, at its first byte, the first such text of the line.
use Rattle.std.specs.Prelude.{◌≡◌, ℕ, ◌+◌, ◌<◌, ◌⊎◌, List, [], ◌∷◌, length, Some, Ok, Err, Result}
use Rattle.orders.specs.Meaning.{Meaning}
use Rattle.orders.specs.Texts.{Texts}
use Rattle.orders.specs.Whole.{IsKind, NoKind, OnlyKind}
use Rattle.refusals.specs.declared.Refusal.{Refusal}
use Rattle.refusals.specs.Table.{row}
use Rattle.narrowing.specs.declared.line.PlacedText.{PlacedText}
use Rattle.narrowing.specs.declared.narrow.Narrowed.{Narrowed}
use Rattle.narrowing.specs.Lines.{Line, Breaks}

-- reason 1
abbrev pub TooLong : List ℕ → Type 0
TooLong line = 1000 < length line

-- the kind that has this text, or a refusal for reason 4 at this place
abbrev pub ReadsAt : {K : Type 0} → Texts K → List ℕ → ℕ → Result K Refusal → Type 0
ReadsAt m t p (Ok k) = OnlyKind m t k
ReadsAt m t p (Err e) = NoKind m t × (row e ≡ record { number = 4; values = p ∷ [] })

-- reason 4: the leftmost text that no kind has begins at p
abbrev pub WrongText : {K : Type 0} → Texts K → (line : List ℕ) → Line line → ℕ → Type 0
WrongText m line l p =
    (NoKind m l.first × (p ≡ 0)) ⊎ (IsKind m l.first × NoKind m l.second × (p ≡ length l.first + 1))

-- reasons 1 and 2, the second where the first does not hold
abbrev pub Unlawful : List ℕ → Refusal → Type 0
Unlawful line e =
    (TooLong line × (row e ≡ record { number = 1; values = 0 ∷ [] }))
    ⊎ ((TooLong line → ⊥) × ((p : ℕ) × Breaks line p × (row e ≡ record { number = 2; values = p ∷ [] })))

-- the two texts of a line, each with the place of its first byte
pub record TextsOf (line : List ℕ) (l : Line line) (a b : PlacedText) : Type 0 where
  pub first : a.text.now ≡ l.first
  pub first_place : a.place ≡ 0
  pub second : b.text.now ≡ l.second
  pub second_place : b.place ≡ length l.first + 1

-- the two texts of a lawful line, or a refusal for reason 1 or 2
abbrev pub Split : List ℕ → Result (PlacedText × PlacedText) Refusal → Type 0
Split line (Ok t) = (TooLong line → ⊥) × ((l : Line line) × TextsOf line l t.0 t.1)
Split line (Err e) = Unlawful line e

-- the refusal of a line: its reasons by number, each where no earlier one holds
abbrev pub Refuses : {K : Type 0} → Texts K → List ℕ → Refusal → Type 0
Refuses m line e =
    Unlawful line e
    ⊎ ((TooLong line → ⊥) × ((l : Line line) × (p : ℕ) × WrongText m line l p × (row e ≡ record { number = 4; values = p ∷ [] })))

-- the two kinds that a lawful line names, and what they have in common
pub record Answers {K : Type 0} (o : Meaning K) (m : Texts K) (line : List ℕ) (n : Narrowed K) : Type 0 where
  pub within : TooLong line → ⊥
  pub words : Line line
  pub first : m.text n.first ≡ Some words.first
  pub second : m.text n.second ≡ Some words.second
  pub common : n.common ≡ o.common n.first n.second

abbrev pub Narrows : {K : Type 0} → Meaning K → Texts K → List ℕ → Result (Narrowed K) Refusal → Type 0
Narrows o m line (Ok n) = Answers o m line n
Narrows o m line (Err e) = Refuses m line e
