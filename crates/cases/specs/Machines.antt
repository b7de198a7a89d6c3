-- A machine as it lies in memory, and what its steps leave there. A middle layer: no contract of a public call cites it.
use Rattle.std.specs.Prelude.{◌≡◌, ℕ, ◌+◌, ◌<◌, Bool, true, false, List, take, Some, None, Ok, Err, Option, Result, slice_index}
use Rattle.std.specs.List.{AllByRecursion}
use Rattle.orders.specs.Meaning.{Meaning}
use Rattle.joining.specs.declared.cell.Cell.{Cell}
use Rattle.joining.specs.Heap.{kind_in, slot_in}
use Rattle.performing.specs.Performing.{State, narrowed, tied}
use Rattle.instructions.specs.declared.instruction.Instruction.{Instruction}
use Rattle.instructions.specs.declared.instruction.Instruction.TheVariants.{PushCell, SetSort, SetFeature, IntersectSort, TestFeature, UnifyFeature, WriteTest}
use Rattle.instructions.specs.declared.instruction.Mode.TheVariants.{Write}
use Rattle.instructions.specs.Steps.{Machine, set_place}
use Rattle.cases.specs.declared.store.pairs.steps.Progress.{Progress}
use Rattle.cases.specs.Memory.{heap_in}
use Rattle.cases.specs.Within.{Within}
use Rattle.cases.specs.Pushing.{Codes, Room}

-- the register that an instruction sets is below n
abbrev pub Sets : ℕ → Instruction → Type 0
Sets n (PushCell r) = r < n
Sets n (TestFeature r f v depth label) = v < n
Sets n (SetSort r k) = Unit {0}
Sets n (SetFeature r f v) = Unit {0}
Sets n (IntersectSort r k) = Unit {0}
Sets n (UnifyFeature r f v) = Unit {0}
Sets n (WriteTest depth label) = Unit {0}

-- a code sets registers below n only
abbrev pub AllSet : ℕ → List Instruction → Type 0
AllSet n code = AllByRecursion (Sets n) code

module _ {K : Type 0} (features : ℕ) (cells : List (Cell K)) (slots : List (Option ℕ)) (registers : List ℕ) where
  abbrev pub state_in : Progress → State K
  state_in p = record { heap = heap_in p.used features cells slots; places = take p.set registers }

  abbrev pub machine_in : Progress → Machine K
  machine_in p = record { state = state_in p; mode = p.mode; at = p.at }

module _ {K : Type 0} where
  -- a step comes to a machine, or it is a clash
  abbrev pub Steps : Option (Machine K) → (Progress → Machine K) → Option Progress → Type 0
  Steps outcome after (Some p) = outcome ≡ Some (after p)
  Steps outcome after None = outcome ≡ None

  -- the codes come to a state, or they clash
  abbrev pub Runs : Result (State K) ℕ → (Progress → State K) → Result Progress ℕ → Type 0
  Runs outcome after (Ok p) = outcome ≡ Ok (after p)
  Runs outcome after (Err s) = outcome ≡ Err s

  -- a state comes of it, or a clash
  abbrev pub Comes : Option (State K) → State K → Bool → Type 0
  Comes outcome after true = outcome ≡ Some after
  Comes outcome after false = outcome ≡ None

module _ {K : Type 0} (m : Meaning K) where
  -- the end e is narrowed to a kind, whatever else the state has
  abbrev pub Narrows : ℕ → K → List (Cell K) → List (Cell K) → Bool → Type 0
  Narrows e k before after r =
      (used features : ℕ) (slots : List (Option ℕ)) (places : List ℕ)
      → Comes
      (narrowed m e (m.common (kind_in m.widest before e) k) (record { heap = heap_in used features before slots; places = places }))
      (record { heap = heap_in used features after slots; places = places })
      r

  -- nothing leads out of the first n cells, and registers have none but these
  pub record StateWithin (n : ℕ) (s : State K) : Type 0 where
    pub heap : Within n s.heap.features s.heap.cells s.heap.slots m.widest
    pub places : (r : ℕ) → slice_index s.places r < n

  -- and running the codes from the machine t comes to no others
  pub record RunsWithin (n : ℕ) (reads writes : List Instruction) (t : Machine K) : Type 0 where
    pub room : Room reads writes n t.mode t.at t.state.heap.used
    pub codes : Codes reads writes t.state.heap.features
    pub state : StateWithin n t.state

  -- the feature f of the end e is tied to the cell c
  abbrev pub Ties : ℕ → ℕ → ℕ → ℕ → List (Cell K) → List (Option ℕ) → List (Cell K) → List (Option ℕ) → Bool → Type 0
  Ties features e f c cells slots new_cells new_slots r =
      (used : ℕ) (places : List ℕ)
      → Comes
      (tied m e f c (slot_in slots features e f) (record { heap = heap_in used features cells slots; places = places }))
      (record { heap = heap_in used features new_cells new_slots; places = places })
      r

-- what a test finds in a slot is set in its register, and the next instruction comes; or it finds nothing, and writing begins
abbrev pub Tests : ℕ → ℕ → ℕ → Option ℕ → List ℕ → List ℕ → Progress → Progress → Type 0
Tests value depth label (Some j) before after p q =
    (q ≡ record { used = p.used; set = q.set; mode = p.mode; at = p.at + 1 }) × (take q.set after ≡ set_place value j (take p.set before))
Tests value depth label None before after p q =
    (q ≡ record { used = p.used; set = p.set; mode = Write depth; at = label }) × (after ≡ before)
