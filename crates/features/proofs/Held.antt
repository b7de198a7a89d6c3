-- The names that are held, and what a search among them says of a word.
use Rattle.std.proofs.Common.{◌≡◌, ℕ, true, false, List, map, Some, None, Option, inl, inr, arith}
use Rattle.std.specs.Option.{is_some}
use Rattle.std.proofs.lemmas.Bool.{cond-true, cond-false, cases_Bool}
use Rattle.declarations.specs.declared.name.Name.{Name}
use Rattle.declarations.specs.Held.{name_bytes}
use Rattle.declarations.specs.Names.{listed}
use Rattle.grammar.specs.Told.{index}
use Rattle.grammar.proofs.Searching.{number_position}
use Rattle.features.specs.Model.{first_named, number_of}

-- the search of the code answers the number
pub number_found : (w : List ℕ) (names : List Name) → first_named w names ≡ number_of w (map name_bytes names)
unfolding first_named
number_found w names = number_position name_bytes w names

-- what a search says of a word
pub number-known : (w : List ℕ) (vs : List (List ℕ)) (k : ℕ) → Some k ≡ number_of w vs → listed w vs ≡ true
number-known w vs k e =
    elim (cases_Bool (listed w vs)) [
      | inl h ↦ h
      | inr h ↦
          let n : number_of w vs ≡ None = cond-false (listed w vs) _ _ h in
          absurd (let z : ◌≡◌ {A = ℕ} 0 1 = cc in omega arith)
    ]

pub number-unknown : (w : List ℕ) (vs : List (List ℕ)) → None ≡ number_of w vs → listed w vs ≡ false
number-unknown w vs e =
    elim (cases_Bool (listed w vs)) [
      | inl h ↦
          let s : number_of w vs ≡ Some (index w vs) = cond-true (listed w vs) _ _ h in
          absurd (let z : ◌≡◌ {A = ℕ} 0 1 = cc in omega arith)
      | inr h ↦ h
    ]

pub known_number : (w : List ℕ) (vs : List (List ℕ)) (o : Option ℕ) → o ≡ number_of w vs → listed w vs ≡ is_some o
known_number w vs (Some k) e = number-known w vs k e
known_number w vs None e = number-unknown w vs e
