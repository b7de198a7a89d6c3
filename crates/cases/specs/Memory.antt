-- A heap and pending pairs as they lie in memory. A middle layer: no contract of a public call cites it.
use Rattle.std.specs.Prelude.{◌≡◌, ℕ, ◌<◌, ◌≤◌, Bool, true, false, List, take, reverse, Some, None, Option}
use Rattle.orders.specs.Meaning.{Meaning}
use Rattle.joining.specs.declared.cell.Cell.{Cell}
use Rattle.joining.specs.Heap.{Heap}
use Rattle.joining.specs.Joining.{Carried, Work, join_pair}

-- a place below a length, or none where it is past that
abbrev pub Place : ℕ → ℕ → Option ℕ → Type 0
Place size n (Some i) = (i ≡ n) × (i < size)
Place size n None = size ≤ n

abbrev pub heap_in : {K : Type 0} → ℕ → ℕ → List (Cell K) → List (Option ℕ) → Heap K
heap_in used features cells slots = record { used = used; features = features; cells = cells; slots = slots }

-- the first n of the pairs, the latest first
abbrev pub latest : List (ℕ × ℕ) → ℕ → List (ℕ × ℕ)
latest ps n = reverse (take n ps)

abbrev pub held : List (Option ℕ) → List (ℕ × ℕ) → ℕ → Carried
held slots ps n = record { slots = slots; pending = latest ps n }

abbrev pub work_in : {K : Type 0} → ℕ → ℕ → List (Cell K) → List (Option ℕ) → List (ℕ × ℕ) → ℕ → Work K
work_in used features cells slots ps n = record { heap = heap_in used features cells slots; pending = latest ps n }

-- one pair is joined, and so many are to be joined after; or it clashes, and the heap is as it was
abbrev pub Pairs : {K : Type 0} → Meaning K → ℕ → ℕ × ℕ → Work K → (ℕ → Work K) → Option ℕ → Type 0
Pairs m room p before after (Some n) = (n ≤ room) × (join_pair m room p before ≡ Some (after n))
Pairs m room p before after None = (join_pair m room p before ≡ None) × ((n : ℕ) → (after n).heap ≡ before.heap)

-- a heap comes of it, which is the one in memory; or a clash
abbrev pub Joined : {K : Type 0} → Option (Heap K) → Heap K → Bool → Type 0
Joined outcome after true = outcome ≡ Some after
Joined outcome after false = outcome ≡ None

-- the same, but a clash has put back the heap before
abbrev pub JoinedOrBack : {K : Type 0} → Option (Heap K) → Heap K → Heap K → Bool → Type 0
JoinedOrBack outcome before after true = outcome ≡ Some after
JoinedOrBack outcome before after false = (outcome ≡ None) × (after ≡ before)

-- how many slots there are, or none where the memory is too short
abbrev pub Slots : ℕ → Bool → Option ℕ → Type 0
Slots n short (Some size) = (size ≡ n) × (short ≡ false)
Slots n short None = short ≡ true
