-- The table of refusals: each case has a number and the values that it returns.
use Rattle.std.specs.Prelude.{ℕ, List, [], ◌∷◌, ◌++◌, decimal}
use Rattle.refusals.specs.declared.Refusal.{Refusal}
use Rattle.refusals.specs.declared.Refusal.TheVariants.{Limit, Grammar, Word, Kind, NoWidest, Memory, Cell, Feature, Full, Clash}

pub record Row : Type 0 where
  pub number : ℕ
  pub values : List ℕ

abbrev pub row : Refusal → Row
row (Limit place) = record { number = 1; values = place ∷ [] }
row (Grammar place) = record { number = 2; values = place ∷ [] }
row (Word place) = record { number = 3; values = place ∷ [] }
row (Kind place) = record { number = 4; values = place ∷ [] }
row (NoWidest first second) = record { number = 5; values = first ∷ second ∷ [] }
row Memory = record { number = 6; values = [] }
row Cell = record { number = 7; values = [] }
row Feature = record { number = 8; values = [] }
row Full = record { number = 9; values = [] }
row (Clash statement) = record { number = 10; values = statement ∷ [] }

-- each value, a blank before it
abbrev pub listed : List ℕ → List ℕ
listed [] = []
listed (v ∷ vs) = 32 ∷ (decimal v ++ listed vs)

-- a row as the programs print it
abbrev pub printed : Row → List ℕ
printed r = decimal r.number ++ listed r.values
