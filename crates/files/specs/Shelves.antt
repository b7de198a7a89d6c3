-- A shelf of terms, and what reading a line into the next one of them gives. A middle layer: of its words the contract of a public call
-- cites `Empty` alone, for memory that is taken.
use Rattle.std.specs.Prelude.{◌≡◌, ℕ, ◌+◌, ◌<◌, List, map, take, Ok, Err, Result, replicate, vec_items}
use Rattle.refusals.specs.declared.Refusal.{Refusal}
use Rattle.orders.specs.Texts.{Texts}
use Rattle.grammar.specs.declared.statement.Said.{Said}
use Rattle.features.specs.Model.{feature_names}
use Rattle.terms.specs.declared.term.Term.{Term}
use Rattle.terms.specs.Terms.{said_of, room_of}
use Rattle.files.specs.Files.{TakesTerm}
use Rattle.files.specs.declared.lines.shelf.Shelf.{Shelf}

module _ {K : Type 0} where
  -- the statements of the first terms
  abbrev pub said_in : ℕ → List (Term K) → List (List (Said K))
  said_in n terms = map said_of (take n terms)

  -- as many terms as a section may have lines, with memory in each for as many statements as a line may have
  abbrev pub Empty : List (Term K) → Type 0
  Empty terms = map room_of terms ≡ replicate 200 399

module _ {K O : Type 0} where
  -- the terms that have been read
  abbrev pub terms_of : Shelf K O → List (List (Said K))
  terms_of s = said_in s.filled (vec_items s.terms)

  -- there is a term more
  pub record Ready (s : Shelf K O) : Type 0 where
    pub more : s.filled < 200
    pub rooms : Empty (vec_items s.terms)

  pub record Filled (s t : Shelf K O) : Type 0 where
    pub filled : t.filled ≡ s.filled + 1
    pub rooms : Empty (vec_items t.terms)
    pub order : t.order ≡ s.order
    pub features : t.features ≡ s.features

  abbrev pub After : Shelf K O → Shelf K O → Result ℕ Refusal → Type 0
  After s t (Ok n) = Filled s t
  After s t (Err e) = Unit {0}

  -- one term more is read, or the line is refused
  abbrev pub Takes : Texts K → Shelf K O → List ℕ → Shelf K O → Result ℕ Refusal → Type 0
  Takes m s line t r = Ready s → TakesTerm m (feature_names s.features.now) (terms_of s) line (terms_of t) r × After s t r
