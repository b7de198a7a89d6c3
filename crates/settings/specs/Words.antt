-- The features that lines may use, by their names.
use Rattle.std.specs.Prelude.{ℕ, List, [], ◌∷◌, codes}

abbrev pub words : List (List ℕ)
words = codes "paid" ∷ codes "back" ∷ codes "for" ∷ codes "next" ∷ codes "a" ∷ codes "b" ∷ codes "f" ∷ []
