-- The line that declares a kind, and what it is refused for.
--
-- A line is the kind's name, and then a blank and the name of a wider kind, once or more: `returned_dd returned by_dd`.
-- Refused with 1 at 0: a line of over 1,000 bytes, a name of over 24, or a lawful line for one kind too many.
-- Refused with 2: `rent`, at 4, since it ends too early; `rent  any`, at 5; `Rent any`, at 0; `rent any `, at 9.
-- Refused with 3: `any any`, at 0, since `any` is declared; `rent any loan`, at 9, where `loan` is not.
use Rattle.std.specs.Prelude.{◌≡◌, ℕ, ◌+◌, ◌<◌, ◌≤◌, true, false, ◌⊎◌, List, [], ◌∷◌, ◌++◌, length, take, Ok, Err, filter, Option, Result, ◌≢◌, slice_index}
use Rattle.std.specs.List.{range_with_len, AllByRecursion}
use Rattle.refusals.specs.declared.Refusal.{Refusal}
use Rattle.refusals.specs.Places as places
use Rattle.refusals.specs.Table.{row}
use Rattle.scanning.specs.Scanner as scanner
use Rattle.declarations.specs.Names.{is_name, listed}
use Rattle.declarations.specs.Declarations.{Declaration, name_of, names}

-- the wider kinds as they stand in the line, a blank before each
unfoldable pub tail : List (List ℕ) → List ℕ
tail [] = []
tail (w ∷ ws) = 32 ∷ (w ++ tail ws)

-- a lawful line, by its words
pub record Line (line : List ℕ) : Type 0 where
  pub name : List ℕ
  pub wider : List (List ℕ)
  pub named : is_name name ≡ true
  pub each : AllByRecursion (λ w. is_name w ≡ true) wider
  pub some : 0 < length wider
  pub whole : line ≡ name ++ tail wider

-- reason 2: p is the first byte at which no lawful line goes on, or the length of a line that only ends too early
abbrev pub Breaks : List ℕ → ℕ → Type 0
Breaks line p = places.Breaks Line line p

-- whether a line is lawful, or where it breaks
abbrev pub Scanned : List ℕ → Option ℕ → Type 0
Scanned line found = scanner.Scanned Line line found

-- the longest name that the line begins with has n bytes
pub record NameEnd (line : List ℕ) (n : ℕ) : Type 0 where
  pub within : n ≤ length line
  pub name : 0 < n → is_name (take n line) ≡ true
  pub most : (w rest : List ℕ) → is_name w ≡ true → line ≡ w ++ rest → length w ≤ n

-- n is the first blank at `start` or past it, or the line's length where there is none
pub record WordEnd (line : List ℕ) (start n : ℕ) : Type 0 where
  pub before : (k : ℕ) → start ≤ k → k < n → slice_index line k ≢ 32
  pub end : (n ≡ length line) ⊎ ((start ≤ n) × (n < length line) × (slice_index line n ≡ 32))

-- the line begins with a name of over 24 bytes
pub record LongName (line : List ℕ) : Type 0 where
  pub name : List ℕ
  pub rest : List ℕ
  pub named : is_name name ≡ true
  pub long : 24 < length name
  pub whole : line ≡ name ++ rest

-- reason 1: a line over 1,000 bytes, a name over 24, or a lawful line when all kinds are declared
abbrev pub TooMuch : ℕ → List Declaration → List ℕ → Type 0
TooMuch limit ds line = (1000 < length line) ⊎ (LongName line ⊎ (Line line × (limit ≤ length ds)))

abbrev pub Known : List Declaration → List ℕ → Type 0
Known ds w = listed w (names ds) ≡ true

abbrev pub Unknown : List Declaration → List ℕ → Type 0
Unknown ds w = listed w (names ds) ≡ false

-- the first unknown word among those that follow `at` bytes, and the place of its first byte
pub record FirstUnknown (ds : List Declaration) (at : ℕ) (ws : List (List ℕ)) (p : ℕ) : Type 0 where
  pub done : List (List ℕ)
  pub word : List ℕ
  pub more : List (List ℕ)
  pub split : ws ≡ done ++ word ∷ more
  pub known : AllByRecursion (Known ds) done
  pub unknown : Unknown ds word
  pub place : p ≡ at + length (tail done) + 1

-- reason 3: the kind is declared before, or else a wider kind is unknown; the leftmost such word begins at p
abbrev pub WrongWord : List Declaration → (line : List ℕ) → Line line → ℕ → Type 0
WrongWord ds line l p =
    (Known ds l.name × (p ≡ 0)) ⊎ (Unknown ds l.name × FirstUnknown ds (length l.name) l.wider p)

-- the numbers of the kinds that are named, rising
abbrev pub numbers : List Declaration → List (List ℕ) → List ℕ
numbers ds ws = filter (λ k. listed (name_of ds k) ws) (range_with_len 0 (length ds))

-- what an accepted line declares
pub record Accepts (limit : ℕ) (ds : List Declaration) (line : List ℕ) (d : Declaration) : Type 0 where
  pub words : Line line
  pub within : TooMuch limit ds line → ⊥
  pub fresh : Unknown ds words.name
  pub known : AllByRecursion (Known ds) words.wider
  pub name : d.name ≡ words.name
  pub wider : d.wider ≡ numbers ds words.wider

-- the refusal of a line: its reasons by number, each where no earlier one holds
abbrev pub Refuses : ℕ → List Declaration → List ℕ → Refusal → Type 0
Refuses limit ds line e =
    (TooMuch limit ds line × (row e ≡ record { number = 1; values = 0 ∷ [] }))
    ⊎ (((TooMuch limit ds line → ⊥) × ((p : ℕ) × Breaks line p × (row e ≡ record { number = 2; values = p ∷ [] })))
    ⊎ ((TooMuch limit ds line → ⊥) × ((l : Line line) × (p : ℕ) × WrongWord ds line l p × (row e ≡ record { number = 3; values = p ∷ [] }))))

-- declaring a line in a list of at most `limit` kinds: the number of the new kind, or a refusal that leaves the declarations as they were
abbrev pub Declares : ℕ → List Declaration → List ℕ → List Declaration → Result ℕ Refusal → Type 0
Declares limit ds line after (Ok k) = (k ≡ length ds) × ((d : Declaration) × Accepts limit ds line d × (after ≡ ds ++ d ∷ []))
Declares limit ds line after (Err e) = Refuses limit ds line e × (after ≡ ds)
