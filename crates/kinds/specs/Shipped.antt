-- The kinds of the shipped list, and the lines that declare them.
use Rattle.std.specs.Prelude.{ℕ, List, [], ◌∷◌, codes}
use Rattle.declarations.specs.Declarations.{Declaration, any}

abbrev pub shipped : List Declaration
shipped =
    any
    ∷ record { name = codes "credit"; wider = 0 ∷ [] }
    ∷ record { name = codes "debit"; wider = 0 ∷ [] }
    ∷ record { name = codes "by_dd"; wider = 0 ∷ [] }
    ∷ record { name = codes "receipt"; wider = 1 ∷ [] }
    ∷ record { name = codes "rent"; wider = 4 ∷ [] }
    ∷ record { name = codes "returned"; wider = 2 ∷ [] }
    ∷ record { name = codes "returned_dd"; wider = 3 ∷ 6 ∷ [] }
    ∷ record { name = codes "rent_dd"; wider = 3 ∷ 5 ∷ [] }
    ∷ record { name = codes "fee"; wider = 2 ∷ [] }
    ∷ []

abbrev pub shipped_lines : List (List ℕ)
shipped_lines =
    codes "credit any"
    ∷ codes "debit any"
    ∷ codes "by_dd any"
    ∷ codes "receipt credit"
    ∷ codes "rent receipt"
    ∷ codes "returned debit"
    ∷ codes "returned_dd returned by_dd"
    ∷ codes "rent_dd rent by_dd"
    ∷ codes "fee debit"
    ∷ []
