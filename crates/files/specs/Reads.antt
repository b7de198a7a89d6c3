-- What a book says of a file.
use Rattle.std.specs.Prelude.{◌≡◌, ℕ, List, map, Ok, Err, Result, Vec, vec_items}
use Rattle.refusals.specs.declared.Refusal.{Refusal}
use Rattle.orders.specs.Texts.{Texts}
use Rattle.grammar.specs.declared.statement.Said.{Said}
use Rattle.features.specs.Model.{feature_names}
use Rattle.kinds.specs.Lists.{Closing}
use Rattle.terms.specs.declared.term.Term.{Term}
use Rattle.terms.specs.Terms.{said_of}
use Rattle.files.specs.Files.{Contents, Lists, File}
use Rattle.files.specs.declared.lines.reads.Book.{Book}

module _ {K : Type 0} where
  abbrev pub said_terms : {Z : Type 0} → Vec (Term K) Z → List (List (Said K))
  said_terms v = map said_of (vec_items v)

module _ {K O : Type 0} (made : Closing → O) (texts : Closing → Texts K) where
  -- what a book has, whose order is made of this list
  abbrev pub contents : Closing → Book K O → Contents K
  contents l b = record { list = l; features = feature_names b.features; entries = said_terms b.entries; rules = said_terms b.rules }

  abbrev pub ListsRead : List ℕ → ℕ → Closing → Result (Book K O) Refusal → Type 0
  ListsRead file s l (Ok b) = (b.order ≡ made l) × Lists texts file s l (Ok (contents l b))
  ListsRead file s l (Err e) = Lists texts file s l (Err e)

  -- a book whose order is made of the file's list, with all that the file says; or the file's refusal
  unfoldable pub FileRead : List ℕ → Result (Book K O) Refusal → Type 0
  FileRead file (Ok b) = (l : Closing) × (b.order ≡ made l) × File texts file (Ok (contents l b))
  FileRead file (Err e) = File texts file (Err e)
