-- What comes of performing statements on a heap in order.
use Rattle.std.specs.Prelude.{◌≡◌, ℕ, suc, ◌+◌, ◌<◌, ◌≤◌, cond, List, [], ◌∷◌, length, Some, None, Option, ◌==◌, slice_index}
use Rattle.std.specs.List.{AllByRecursion}
use Rattle.orders.specs.Meaning.{Meaning}
use Rattle.grammar.specs.declared.statement.Statement.{Statement}
use Rattle.grammar.specs.declared.statement.Statement.TheVariants.{Kind, Feature}
use Rattle.joining.specs.Good.{Good}
use Rattle.joining.specs.Interpretation.{Structure, Sound}
use Rattle.joining.specs.Law.{Extends}
use Rattle.performing.specs.Performing.{State, end_of, perform}
use Rattle.performing.specs.Structures.{structure_of, Says}

-- a statement where p variables are met, in a case of so many features
abbrev pub Fits : {K : Type 0} → ℕ → ℕ → Statement K → Type 0
Fits features p (Kind x k) = x < p
Fits features p (Feature x f y) = (x < p) × (f < features) × (y ≤ p)

-- how many are met after it
abbrev pub met_after : {K : Type 0} → ℕ → Statement K → ℕ
met_after p (Kind x k) = p
met_after p (Feature x f y) = cond (y == p) (suc p) p

unfoldable pub AllFit : {K : Type 0} → ℕ → ℕ → List (Statement K) → Type 0
AllFit features p [] = Unit {0}
AllFit features p (t ∷ ts) = Fits features p t × AllFit features (met_after p t) ts

unfoldable pub met_by : {K : Type 0} → ℕ → List (Statement K) → ℕ
met_by p [] = p
met_by p (t ∷ ts) = met_by (met_after p t) ts

module _ {K : Type 0} (m : Meaning K) where
  -- a heap in order, and the variables' cells in use
  pub record InOrder (s : State K) : Type 0 where
    pub good : Good m.widest s.heap
    pub placed : (x : ℕ) → x < length s.places → slice_index s.places x < s.heap.used

  -- the state u comes after s: cells in use stay so and say all that they said, variables keep their cells, and each new cell is a new variable's
  pub record Follows (s u : State K) : Type 0 where
    pub in_order : InOrder u
    pub used : s.heap.used ≤ u.heap.used
    pub features : u.heap.features ≡ s.heap.features
    pub cells : length u.heap.cells ≡ length s.heap.cells
    pub slots : length u.heap.slots ≡ length s.heap.slots
    pub met : length s.places ≤ length u.places
    pub room : u.heap.used + length s.places ≤ s.heap.used + length u.places
    pub places : (x : ℕ) → x < length s.places → slice_index u.places x ≡ slice_index s.places x
    pub pushed : (j : ℕ) → s.heap.used ≤ j → j < u.heap.used → (x : ℕ) × (length s.places ≤ x) × (x < length u.places) × (slice_index u.places x ≡ j)
    pub extends : Extends m s.heap u.heap

  -- the heap says only what is true of the things of its cells, and those of the variables' cells are given
  pub record SoundFor {T : Type 0} (r : Structure K T) (thing : ℕ → T) (value : ℕ → T) (s : State K) : Type 0 where
    pub sound : Sound m r thing s.heap
    pub values : (x : ℕ) → x < length s.places → thing (slice_index s.places x) ≡ value x

  -- where all is sound and true, u is sound too, for things that are the same on the cells of s
  abbrev pub KeepsSound : (T : Type 0) → List (Statement K) → State K → State K → Type 0
  KeepsSound T ts s u =
      (r : Structure K T) (thing value : ℕ → T) → SoundFor r thing value s → AllByRecursion (Says m r value) ts
      → (new : ℕ → T) × ((j : ℕ) → j < s.heap.used → new j ≡ thing j) × SoundFor r new value u

  -- the statements are true in no structure that the heap is sound for
  abbrev pub NeverTrue : (T : Type 0) → List (Statement K) → State K → Type 0
  NeverTrue T ts s = (r : Structure K T) (thing value : ℕ → T) → SoundFor r thing value s → AllByRecursion (Says m r value) ts → ⊥

  -- the state u that comes of performing statements: the case makes them true
  pub record Performed (T : Type 0) (ts : List (Statement K)) (s u : State K) : Type 0 where
    pub follows : Follows s u
    pub count : length u.places ≡ met_by (length s.places) ts
    pub true_of : AllByRecursion (Says m (structure_of m u.heap) (end_of m u)) ts
    pub keeps : KeepsSound T ts s u

  -- one statement
  abbrev pub Step : (T : Type 0) → Statement K → State K → Option (State K) → Type 0
  Step T t s (Some u) = Performed T (t ∷ []) s u
  Step T t s None = NeverTrue T (t ∷ []) s

  -- what is to be shown of one: it holds on every state in order where the statement fits, and a cell is left for a new variable
  abbrev pub StepLaw : Type 0 → Type 0
  StepLaw T = (t : Statement K) (s : State K) → InOrder s → Fits s.heap.features (length s.places) t
      → s.heap.used + met_after (length s.places) t ≤ length s.heap.cells + length s.places → Step T t s (perform m t s)
