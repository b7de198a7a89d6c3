-- The memory of a case: cells, each with one slot for each feature. What is read of it, and what is written.
use Rattle.std.specs.Prelude.{ℕ, zero, suc, ◌+◌, ◌*◌, List, [], ◌∷◌, ◌++◌, length, get_or, set, replicate, Some, None, Option}
use Rattle.joining.specs.declared.cell.Cell.{Cell}

-- `used` cells are in use, the first ones; the slots are rows of `features`, a row for each cell
pub record Heap (K : Type 0) : Type 0 where
  pub used : ℕ
  pub features : ℕ
  pub cells : List (Cell K)
  pub slots : List (Option ℕ)

-- a cell that refers to itself, of the kind given
abbrev pub new_cell : {K : Type 0} → K → ℕ → Cell K
new_cell top i = record { refers = i; kind = top }

-- a cell past the memory is read as a new one
unfoldable pub refers_in : {K : Type 0} → K → List (Cell K) → ℕ → ℕ
refers_in top cells i = (get_or cells i (new_cell top i)).refers

unfoldable pub kind_in : {K : Type 0} → K → List (Cell K) → ℕ → K
kind_in top cells i = (get_or cells i (new_cell top i)).kind

unfoldable pub slot_in : List (Option ℕ) → ℕ → ℕ → ℕ → Option ℕ
slot_in slots features i f = get_or slots (i * features + f) None

-- what cell i refers to, its kind, and the content of its slot for feature f
abbrev pub refers : {K : Type 0} → K → Heap K → ℕ → ℕ
refers top h = refers_in top h.cells

abbrev pub kind : {K : Type 0} → K → Heap K → ℕ → K
kind top h = kind_in top h.cells

abbrev pub slot : {K : Type 0} → Heap K → ℕ → ℕ → Option ℕ
slot h = slot_in h.slots h.features

-- from i, n times
unfoldable pub follow : (ℕ → ℕ) → ℕ → ℕ → ℕ
follow r zero i = i
follow r (suc n) i = follow r n (r i)

-- the end of a cell: coreferences are followed as often as there are cells
abbrev pub end : {K : Type 0} → K → Heap K → ℕ → ℕ
end top h i = follow (refers top h) (length h.cells) i

-- a new kind for cell i, and a new cell that it refers to
unfoldable pub put_kind : {K : Type 0} → K → List (Cell K) → ℕ → K → List (Cell K)
put_kind top cells i k = set cells i (record { refers = refers_in top cells i; kind = k })

unfoldable pub put_refers : {K : Type 0} → K → List (Cell K) → ℕ → ℕ → List (Cell K)
put_refers top cells i j = set cells i (record { refers = j; kind = kind_in top cells i })

unfoldable pub put_slot : List (Option ℕ) → ℕ → ℕ → ℕ → ℕ → List (Option ℕ)
put_slot slots features i f j = set slots (i * features + f) (Some j)

-- cell i is a new one
unfoldable pub put_new : {K : Type 0} → K → List (Cell K) → ℕ → List (Cell K)
put_new top cells i = set cells i (new_cell top i)

-- n slots, from the one given on, are made empty
unfoldable pub emptied : List (Option ℕ) → ℕ → ℕ → List (Option ℕ)
emptied slots start zero = slots
emptied slots start (suc n) = set (emptied slots start n) (start + n) None

abbrev pub set_kind : {K : Type 0} → K → Heap K → ℕ → K → Heap K
set_kind top h i k = record { used = h.used; features = h.features; cells = put_kind top h.cells i k; slots = h.slots }

abbrev pub refer : {K : Type 0} → K → Heap K → ℕ → ℕ → Heap K
refer top h i j = record { used = h.used; features = h.features; cells = put_refers top h.cells i j; slots = h.slots }

-- the slot of cell i for feature f gets the content j
abbrev pub fill : {K : Type 0} → Heap K → ℕ → ℕ → ℕ → Heap K
fill h i f j = record { used = h.used; features = h.features; cells = h.cells; slots = put_slot h.slots h.features i f j }

-- one more cell is in use: it refers to itself, has the widest kind and a row of empty slots
abbrev pub push : {K : Type 0} → K → Heap K → Heap K
push top h =
    record {
      used = suc h.used;
      features = h.features;
      cells = put_new top h.cells h.used;
      slots = emptied h.slots (h.used * h.features) h.features;
    }

-- the first n cells, all new
unfoldable pub new_cells : {K : Type 0} → K → ℕ → List (Cell K)
new_cells top zero = []
new_cells top (suc n) = new_cells top n ++ new_cell top n ∷ []

-- a case of n cells as it is opened: no cell is in use, and all are as `push` leaves them
abbrev pub opened : {K : Type 0} → K → ℕ → ℕ → Heap K
opened top n features = record { used = 0; features = features; cells = new_cells top n; slots = replicate (n * features) None }
