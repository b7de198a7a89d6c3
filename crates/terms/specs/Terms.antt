-- A term as its readers see it. Statements count from 1, variables from 0.
use Rattle.std.specs.Prelude.{◌≡◌, ℕ, ◌-◌, ◌<◌, ◌≤◌, ◌⊎◌, List, length, Some, None, vec_items, Option, slice_index_or}
use Rattle.grammar.specs.declared.statement.Said.{Said}
use Rattle.grammar.specs.Lawful.{depths, statements}
use Rattle.terms.specs.declared.term.Term.{Term}

module _ {K : Type 0} where
  -- the statements, each with the place of its word
  abbrev pub said_of : Term K → List (Said K)
  said_of t = vec_items t.rows

  -- for how many statements there is memory
  abbrev pub room_of : Term K → ℕ
  room_of t = t.room

  -- how many features are declared
  abbrev pub features_of : Term K → ℕ
  features_of t = t.features

  -- the depths of the variables
  abbrev pub depths_in : Term K → List ℕ
  depths_in t = depths (statements (said_of t))

module _ {X : Type 0} where
  -- the element with this number, from 0; none past the last
  abbrev pub From0 : List X → ℕ → Option X → Type 0
  From0 xs n (Some x) = (n < length xs) × (slice_index_or xs n x ≡ x)
  From0 xs n None = length xs ≤ n

  -- the element with this number, from 1; none at 0 and past the last
  abbrev pub From1 : List X → ℕ → Option X → Type 0
  From1 xs n (Some x) = (0 < n) × (n ≤ length xs) × (slice_index_or xs (n - 1) x ≡ x)
  From1 xs n None = (n ≡ 0) ⊎ (length xs < n)
