-- Joining two cells: pairs are taken, the latest first, until none is pending or two kinds have no common kind.
use Rattle.std.specs.Prelude.{ℕ, zero, suc, ◌+◌, ◌*◌, cond, List, [], ◌∷◌, length, Some, None, Option, ◌==◌, nat_lt}
use Rattle.orders.specs.Meaning.{Meaning}
use Rattle.joining.specs.Heap.{Heap, kind, slot_in, put_slot, set_kind, refer, end}

-- slots, and the pairs that are still to be joined, the latest first
pub record Carried : Type 0 where
  pub slots : List (Option ℕ)
  pub pending : List (ℕ × ℕ)

-- one pair more, where there is room for it
unfoldable pub add_pair : ℕ → ℕ × ℕ → List (ℕ × ℕ) → List (ℕ × ℕ)
add_pair room p ps = cond (nat_lt (length ps) room) (p ∷ ps) ps

-- what the second end's content for feature f does, by what the first end has there: it fills the first's empty slot, and two contents
-- become a pending pair
unfoldable pub carry_one : ℕ → ℕ → ℕ → ℕ → Option ℕ → Option ℕ → Carried → Carried
carry_one room features first f mine None w = w
carry_one room features first f None (Some j) w = record { slots = put_slot w.slots features first f j; pending = w.pending }
carry_one room features first f (Some i) (Some j) w = record { slots = w.slots; pending = add_pair room (i, j) w.pending }

-- the features below n, from the lowest
unfoldable pub carry : ℕ → ℕ → ℕ → ℕ → ℕ → Carried → Carried
carry room features first second zero w = w
carry room features first second (suc f) w =
    let v = carry room features first second f w in
    carry_one room features first f (slot_in v.slots features first f) (slot_in v.slots features second f) v

-- the first end gets the kind k, and the second end refers to the first; the second's kind and slots stay
abbrev pub bind : {K : Type 0} → K → ℕ → ℕ → K → Heap K → Heap K
bind top first second k h = refer top (set_kind top h first k) second first

-- a heap, and the pairs that are still to be joined, the latest first
pub record Work (K : Type 0) : Type 0 where
  pub heap : Heap K
  pub pending : List (ℕ × ℕ)

abbrev pub work : {K : Type 0} → Heap K → Carried → Work K
work h v = record { heap = record { used = h.used; features = h.features; cells = h.cells; slots = v.slots }; pending = v.pending }

-- two ends, with the common kind of what stands there; none is a clash
unfoldable pub join_ends : {K : Type 0} → Meaning K → ℕ → ℕ → ℕ → Option K → Work K → Option (Work K)
join_ends m room a b None w = None
join_ends m room a b (Some k) w =
    let h = bind m.widest a b k w.heap in
    Some (work h (carry room h.features a b h.features (record { slots = h.slots; pending = w.pending })))

-- one pair, brought to its two ends; equal ends need nothing
unfoldable pub join_pair : {K : Type 0} → Meaning K → ℕ → ℕ × ℕ → Work K → Option (Work K)
join_pair m room p w =
    let a = end m.widest w.heap p.0 in
    let b = end m.widest w.heap p.1 in
    cond (a == b) (Some w) (join_ends m room a b (m.common (kind m.widest w.heap a) (kind m.widest w.heap b)) w)

-- n pairs at most; none is a clash
unfoldable pub join_all : {K : Type 0} → Meaning K → ℕ → ℕ → List (ℕ × ℕ) → Heap K → Option (Heap K)
join_all m room zero ps h = Some h
join_all m room (suc n) [] h = Some h
join_all m room (suc n) (p ∷ ps) h =
    elim (join_pair m room p (record { heap = h; pending = ps })) [ Some w ↦ join_all m room n w.pending w.heap | None ↦ None ]

-- the most pairs that are taken, and that are pending at one time
abbrev pub most_pairs : {K : Type 0} → Heap K → ℕ
most_pairs h = length h.cells * h.features + 1

-- a first and a second cell are joined; none is a clash
abbrev pub join : {K : Type 0} → Meaning K → ℕ → ℕ → Heap K → Option (Heap K)
join m a b h = join_all m (most_pairs h) (most_pairs h) ((a, b) ∷ []) h
