-- Statements of notes with their kinds. A middle layer: no contract of a public call of this crate's users cites it.
use Rattle.std.specs.Prelude.{◌≡◌, ℕ, List, length, Some, None, Ok, Err, Option, Result}
use Rattle.refusals.specs.declared.Refusal.{Refusal}
use Rattle.refusals.specs.declared.Refusal.TheVariants.{Kind as WrongText}
use Rattle.orders.specs.Texts.{Texts}
use Rattle.orders.specs.Whole.{NoKind}
use Rattle.grammar.specs.declared.statement.Statement.{Statement}
use Rattle.grammar.specs.declared.statement.Statement.TheVariants.{Kind, Feature}
use Rattle.grammar.specs.declared.statement.Said.{Said}
use Rattle.grammar.specs.Told.{told}
use Rattle.grammar.specs.Lines.{Line, WrongKind}
use Rattle.grammar.specs.Only.{OnlyStatement, OnlyReads}
use Rattle.reading.specs.declared.notes.Notes.{Notes}
use Rattle.reading.specs.Notes.{noted}

-- a kind statement whose text no kind has
abbrev pub NoStatement : {K : Type 0} → Texts K → Statement (List ℕ) → Type 0
NoStatement m (Kind x t) = NoKind m t
NoStatement m (Feature x f y) = ⊥

-- the statement with its kind, the only one that has its text, or none where no kind has it
abbrev pub StatementOf : {K : Type 0} → Texts K → Statement (List ℕ) → Option (Statement K) → Type 0
StatementOf m s (Some u) = OnlyStatement m s u
StatementOf m s None = NoStatement m s

-- statements whose kinds can all be read
abbrev pub Readable : {K : Type 0} → Texts K → List (Said (List ℕ)) → Type 0
Readable {K} m ss = (us : List (Said K)) × OnlyReads m ss us

-- none where all kinds can be read, or the place of the first kind text that no kind has
abbrev pub FirstWrong : {K : Type 0} → Texts K → List (Said (List ℕ)) → Option ℕ → Type 0
FirstWrong m ss None = Readable m ss
FirstWrong m ss (Some p) = WrongKind m ss p

-- all kinds can be read, or the refusal of the first kind text that no kind has
abbrev pub ChecksKinds : {K : Type 0} → Texts K → List (Said (List ℕ)) → Result (Unit {0}) Refusal → Type 0
ChecksKinds m ss (Ok _) = Readable m ss
ChecksKinds m ss (Err e) = (p : ℕ) × WrongKind m ss p × (e ≡ WrongText p)

-- the notes hold what a line says that has no reason up to 3 to be refused; so many features are declared
pub record Found (features : List (List ℕ)) (count : ℕ) (line : List ℕ) (notes : Notes) : Type 0 where
  pub many : length features ≡ count
  pub words : Line line
  pub same : noted line notes ≡ told features words.tree
  pub right : (told features words.tree).wrong ≡ None
