-- What the calls on a case answer and leave in the memory that they are lent.
use Rattle.std.specs.Prelude.{◌≡◌, ℕ, ◌*◌, cond, List, [], ◌++◌, length, take, drop, Ok, Err, Option, Result}
use Rattle.refusals.specs.declared.Refusal.{Refusal}
use Rattle.refusals.specs.declared.Refusal.TheVariants.{Memory}
use Rattle.orders.specs.Meaning.{Meaning}
use Rattle.grammar.specs.declared.statement.Statement.{Statement}
use Rattle.joining.specs.declared.cell.Cell.{Cell}
use Rattle.joining.specs.Heap.{Heap}
use Rattle.osf.specs.Calls.{Lent, Left, short_for, too_short_for, refused, enters, matches, joins, kind_asked, feature_asked}
use Rattle.cases.specs.declared.case.Case.{Case}

-- a question is lent cells and slots alone
abbrev pub lent_to_ask : ℕ → ℕ → Lent
lent_to_ask cells slots = record { cells = cells; slots = slots; pending = 0; spare_cells = 0; spare_slots = 0 }

-- a list, and after it what lies past its length in the memory before
abbrev pub over : {X : Type 0} → List X → List X → List X
over xs before = xs ++ drop (length xs) before

abbrev pub with_used : Case → ℕ → Case
with_used case used = record { cells = case.cells; features = case.features; used = used }

module _ {K : Type 0} where
  -- the lengths of what a call is lent
  abbrev pub lent : List (Cell K) → List (Option ℕ) → List (ℕ × ℕ) → List (Cell K) → List (Option ℕ) → Lent
  lent cells slots pending spare_cells spare_slots =
      record {
        cells = length cells;
        slots = length slots;
        pending = length pending;
        spare_cells = length spare_cells;
        spare_slots = length spare_slots;
      }

  -- a case's cells and slots stand first in the memory
  abbrev pub heap_of : Case → List (Cell K) → List (Option ℕ) → Heap K
  heap_of case cells slots =
      record { used = case.used; features = case.features; cells = take case.cells cells; slots = take (case.cells * case.features) slots }

  -- opening answers the sizes of the case, none of its cells in use
  abbrev pub as_opened : Result (Heap K) Refusal → Result Case Refusal
  as_opened (Ok h) = Ok (record { cells = length h.cells; features = h.features; used = h.used })
  as_opened (Err e) = Err e

  -- and puts its cells and slots over what stands first in the memory; a refusal leaves all as it was
  abbrev pub OpenedIn : Result (Heap K) Refusal → List (Cell K) → List (Option ℕ) → List (Cell K) → List (Option ℕ) → Type 0
  OpenedIn (Ok h) cells slots new_cells new_slots = (new_cells ≡ over h.cells cells) × (new_slots ≡ over h.slots slots)
  OpenedIn (Err e) cells slots new_cells new_slots = (new_cells ≡ cells) × (new_slots ≡ slots)

  -- what a call leaves is what is there; what lies past the case in the memory is kept
  abbrev pub Kept : Left K → Case → List (Cell K) → List (Option ℕ) → Case → List (Cell K) → List (Option ℕ) → List ℕ → Type 0
  Kept left case cells slots new_case new_cells new_slots new_places =
      (new_case ≡ with_used case left.heap.used)
      × ((new_cells ≡ over left.heap.cells cells) × ((new_slots ≡ over left.heap.slots slots) × (new_places ≡ left.places)))

module _ {K : Type 0} (m : Meaning K) where
  -- What entering the statements ss of a term answers and leaves. A memory that is too short does not hold the case whole, so it is refused
  -- before the heap is looked at; and so below.
  abbrev pub enter_of : Lent → Case → List (Statement K) → List ℕ → List (Cell K) → List (Option ℕ) → Left K
  enter_of l case ss places cells slots =
      cond (too_short_for case.cells case.features l) (refused Memory (heap_of case cells slots) places) (enters m l ss places (heap_of case cells slots))

  -- what matching them at the cell i answers and leaves
  abbrev pub match_of : Lent → Case → List (Statement K) → ℕ → List ℕ → List (Cell K) → List (Option ℕ) → Left K
  match_of l case ss i places cells slots =
      cond (too_short_for case.cells case.features l) (refused Memory (heap_of case cells slots) places) (matches m l ss i places (heap_of case cells slots))

  -- what joining the cells i and j of a case answers and leaves
  abbrev pub join_of : Lent → Case → ℕ → ℕ → List (Cell K) → List (Option ℕ) → Left K
  join_of l case i j cells slots =
      cond (too_short_for case.cells case.features l) (refused Memory (heap_of case cells slots) []) (joins m l i j (heap_of case cells slots))

  -- the kind at the end of the cell i
  abbrev pub kind_answer : Case → ℕ → List (Cell K) → List (Option ℕ) → Result K Refusal
  kind_answer case i cells slots =
      let l = lent_to_ask (length cells) (length slots) in
      cond (short_for case.cells case.features l) (Err Memory) (kind_asked m l i (heap_of case cells slots))

  -- the end that the feature f leads to from there
  abbrev pub feature_answer : Case → ℕ → ℕ → List (Cell K) → List (Option ℕ) → Result (Option ℕ) Refusal
  feature_answer case i f cells slots =
      let l = lent_to_ask (length cells) (length slots) in
      cond (short_for case.cells case.features l) (Err Memory) (feature_asked m l i f (heap_of case cells slots))
