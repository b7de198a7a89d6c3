-- What the calls on declared kinds answer.
use Rattle.std.specs.Prelude.{◌≡◌, ℕ, ◌^◌, ◌<◌, true, false, List, [], ◌∷◌, map, length, Some, None, Ok, Err, Option, Result}
use Rattle.std.specs.List.{AllByRecursion}
use Rattle.refusals.specs.declared.Refusal.{Refusal}
use Rattle.refusals.specs.Table.{row}
use Rattle.declarations.specs.Names.{listed}
use Rattle.declarations.specs.Declarations.{Declaration, name_of, follows}
use Rattle.declarations.specs.Lines.{Known, Unknown, FirstUnknown, Accepts, Refuses}
use Rattle.declarations.specs.Rows.{bit, rows_of, meets}
use Rattle.kinds.specs.declared.table.Kind.{Kind}
use Rattle.kinds.specs.declared.table.Table.{Table}
use Rattle.kinds.specs.Stored.{declaration}

abbrev pub kinds_of : Table → List Declaration
kinds_of t = map declaration t.kinds.items

-- the kind of that name, or none where no kind has it
abbrev pub Finds : List Declaration → List ℕ → Option ℕ → Type 0
Finds ds word (Some k) = (k < length ds) × (name_of ds k ≡ word) × Known ds word
Finds ds word None = Unknown ds word

-- no kind has the name; or one has it, refused with 3 at 0
abbrev pub Fresh : List Declaration → List ℕ → Result (Unit {0}) Refusal → Type 0
Fresh ds word (Ok _) = Unknown ds word
Fresh ds word (Err e) = Known ds word × (row e ≡ record { number = 3; values = 0 ∷ [] })

-- the kinds that the words after `at` name, as bits; or the first word that names none, refused with 3
abbrev pub Gathers : List Declaration → ℕ → List (List ℕ) → Result ℕ Refusal → Type 0
Gathers ds at ws (Ok mask) = AllByRecursion (Known ds) ws × (mask < 2 ^ length ds) × ((k : ℕ) → k < length ds → bit mask k ≡ listed (name_of ds k) ws)
Gathers ds at ws (Err e) = (p : ℕ) × FirstUnknown ds at ws p × (row e ≡ record { number = 3; values = p ∷ [] })

-- a line's name and wider kinds, which may be declared next; or the line's refusal
abbrev pub Reads : List Declaration → List ℕ → Result Kind Refusal → Type 0
Reads ds line (Ok k) =
    (length ds < 64) × (k.wider < 2 ^ length ds) × (k.row ≡ 2 ^ length ds) × (follows ds (declaration k) ≡ true) × Accepts 64 ds line (declaration k)
Reads ds line (Err e) = Refuses 64 ds line e

-- the first kind past a with which it does not meet, or none
abbrev pub FirstPast : List Declaration → ℕ → Option ℕ → Type 0
FirstPast ds a (Some b) =
    (a < b) × (b < length ds) × (meets 64 (rows_of ds) a b ≡ false) × ((y : ℕ) → a < y → y < b → meets 64 (rows_of ds) a y ≡ true)
FirstPast ds a None = (y : ℕ) → a < y → y < length ds → meets 64 (rows_of ds) a y ≡ true

-- the first pair that does not meet, or none
abbrev pub FirstPair : List Declaration → Option (ℕ × ℕ) → Type 0
FirstPair ds (Some p) = FirstPast ds p.0 (Some p.1) × ((x : ℕ) → x < p.0 → FirstPast ds x None)
FirstPair ds None = (x : ℕ) → x < length ds → FirstPast ds x None
