-- The calls on a case: what each answers, and what it leaves, on every input.
--
-- A case is a heap, of so many cells and so many features. Each call is lent the case's memory anew, and a place list, into which entering
-- and matching write the cell of each variable. Refusals come in the order of their numbers, and leave all as it was.
use Rattle.std.specs.Prelude.{ℕ, ◌+◌, ◌-◌, ◌*◌, Bool, true, cond, not, ◌&&◌, ◌||◌, List, [], ◌∷◌, ◌++◌, length, drop, Some, None, Ok, Err, Option, Result, nat_lt, nat_le}
use Rattle.refusals.specs.declared.Refusal.{Refusal}
use Rattle.refusals.specs.declared.Refusal.TheVariants.{Memory, Cell, Feature, Full, Clash}
use Rattle.orders.specs.Meaning.{Meaning}
use Rattle.grammar.specs.declared.statement.Statement.{Statement}
use Rattle.grammar.specs.declared.statement.Statement.TheVariants as said
use Rattle.grammar.specs.Lawful.{depths}
use Rattle.joining.specs.Heap.{Heap, opened, kind, slot, end}
use Rattle.joining.specs.Joining.{join}
use Rattle.performing.specs.Performing.{State}
use Rattle.performing.specs.Structures.{end_in}
use Rattle.instructions.specs.Law.{most_turns, enter, match_at}

-- how long the memories are that a call is lent: the case's cells and slots; pending pairs; a spare copy of cells and slots
pub record Lent : Type 0 where
  pub cells : ℕ
  pub slots : ℕ
  pub pending : ℕ
  pub spare_cells : ℕ
  pub spare_slots : ℕ

-- the case's memory is too short for a question
abbrev pub short_for : ℕ → ℕ → Lent → Bool
short_for n f l = nat_lt l.cells n || nat_lt l.slots (n * f)

-- or for a call that may change it
abbrev pub too_short_for : ℕ → ℕ → Lent → Bool
too_short_for n f l = short_for n f l || (nat_lt l.pending (n * f + 1) || (nat_lt l.spare_cells n || nat_lt l.spare_slots (n * f)))

-- a case of n cells and f features is opened, none of them in use; or the sizes are out of range, or the memory is too short
abbrev pub opens : {K : Type 0} → K → ℕ → ℕ → Lent → Result (Heap K) Refusal
opens top n f l = cond ((nat_lt 0 n && nat_le n 1024) && (nat_le f 16 && not (too_short_for n f l))) (Ok (opened top n f)) (Err Memory)

-- what a call leaves, and the cells in use that it answers
pub record Left (K : Type 0) : Type 0 where
  pub heap : Heap K
  pub places : List ℕ
  pub answer : Result ℕ Refusal

abbrev pub variables_of : {K : Type 0} → List (Statement K) → ℕ
variables_of ss = length (depths ss)

-- all features of statements are below f
unfoldable pub features_below : {K : Type 0} → ℕ → List (Statement K) → Bool
features_below f [] = true
features_below f (said.Kind x k ∷ ss) = features_below f ss
features_below f (said.Feature x g y ∷ ss) = nat_lt g f && features_below f ss

module _ {K : Type 0} where
  abbrev pub short : Lent → Heap K → Bool
  short l h = short_for (length h.cells) h.features l

  abbrev pub too_short : Lent → Heap K → Bool
  too_short l h = too_short_for (length h.cells) h.features l

  abbrev pub refused : Refusal → Heap K → List ℕ → Left K
  refused e h places = record { heap = h; places = places; answer = Err e }

  -- the cells of the variables stand first in the place list, and the rest of it is kept
  abbrev pub accepted : State K → List ℕ → Left K
  accepted s places = record { heap = s.heap; places = s.places ++ drop (length s.places) places; answer = Ok s.heap.used }

  abbrev pub accepted_if : Result (State K) ℕ → Heap K → List ℕ → Left K
  accepted_if (Ok s) h places = accepted s places
  accepted_if (Err s) h places = refused (Clash s) h places

  abbrev pub joined_if : Option (Heap K) → Heap K → Left K
  joined_if (Some g) h = record { heap = g; places = []; answer = Ok g.used }
  joined_if None h = refused (Clash 0) h []

  -- reason 8: a feature past the case's, or a place list shorter than the variables
  abbrev pub out_of_range : Heap K → List (Statement K) → List ℕ → Bool
  out_of_range h ss places = not (features_below h.features ss) || nat_lt (length places) (variables_of ss)

-- an answer that is a clash, or no refusal at all
abbrev pub LetThrough : Result ℕ Refusal → Type 0
LetThrough (Ok n) = Unit {0}
LetThrough (Err (Clash s)) = Unit {0}
LetThrough (Err e) = ⊥

module _ {K : Type 0} (m : Meaning K) where
  -- the entry with the statements ss is entered
  abbrev pub enters : Lent → List (Statement K) → List ℕ → Heap K → Left K
  enters l ss places h =
      cond (too_short l h) (refused Memory h places)
      (cond (out_of_range h ss places) (refused Feature h places)
      (cond (nat_lt (length h.cells) (h.used + variables_of ss)) (refused Full h places)
      (accepted (enter m ss h) places)))

  -- the rule with the statements ss is matched at the cell i, which is its root
  abbrev pub matches : Lent → List (Statement K) → ℕ → List ℕ → Heap K → Left K
  matches l ss i places h =
      cond (too_short l h) (refused Memory h places)
      (cond (nat_le h.used i) (refused Cell h places)
      (cond (out_of_range h ss places) (refused Feature h places)
      (cond (nat_lt (length h.cells) (h.used + variables_of ss - 1)) (refused Full h places)
      (accepted_if (match_at m ss (most_turns ss) h i) h places))))

  -- a first and a second cell are joined
  abbrev pub joins : Lent → ℕ → ℕ → Heap K → Left K
  joins l i j h =
      cond (too_short l h) (refused Memory h [])
      (cond (nat_le h.used i || nat_le h.used j) (refused Cell h [])
      (joined_if (join m i j h) h))

  -- the kind at a cell's end
  abbrev pub kind_asked : Lent → ℕ → Heap K → Result K Refusal
  kind_asked l i h = cond (short l h) (Err Memory) (cond (nat_le h.used i) (Err Cell) (Ok (kind m.widest h (end m.widest h i))))

  -- the end that a feature leads to from a cell's end, or none
  abbrev pub feature_asked : Lent → ℕ → ℕ → Heap K → Result (Option ℕ) Refusal
  feature_asked l i f h =
      cond (short l h) (Err Memory)
      (cond (nat_le h.used i) (Err Cell) (cond (nat_le h.features f) (Err Feature) (Ok (end_in m h (slot h (end m.widest h i) f)))))
