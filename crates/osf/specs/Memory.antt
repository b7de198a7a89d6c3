-- The memory of a case after any calls: no bound in the definitions is ever met, and what no call speaks of stays.
use Rattle.std.specs.Prelude.{◌≡◌, ℕ, ◌+◌, ◌<◌, ◌≤◌, List, [], ◌∷◌, ◌++◌, length, drop, None, Ok}
use Rattle.std.specs.List.{AllByRecursion}
use Rattle.orders.specs.Meaning.{Meaning}
use Rattle.grammar.specs.declared.statement.Statement.{Statement}
use Rattle.joining.specs.Heap.{Heap, refers, kind, slot, end}
use Rattle.joining.specs.Joining.{join, join_all, most_pairs}
use Rattle.instructions.specs.Law.{most_turns, match_at}
use Rattle.osf.specs.Calls.{Lent, Left, LetThrough, variables_of, enters, matches, joins}
use Rattle.osf.specs.Runs.{Case, Made, LawfulCall, OfTerm, run}

module _ {K : Type 0} (m : Meaning K) where
  -- coreferences lead to a cell that refers to itself; more turns and more room for pending pairs would change no join, and more turns no
  -- match; cells that are not in use are as push_cell leaves them
  pub record Bounded (c : Case K) : Type 0 where
    pub ends : (i : ℕ) → i < c.heap.used → (end m.widest c.heap i < c.heap.used) × (refers m.widest c.heap (end m.widest c.heap i) ≡ end m.widest c.heap i)
    pub joins : (i j room turns : ℕ) → i < c.heap.used → j < c.heap.used
        → join_all m (most_pairs c.heap + room) (most_pairs c.heap + turns) ((i, j) ∷ []) c.heap ≡ join m i j c.heap
    pub matches : (l : Lent) (ss : List (Statement K)) (i turns : ℕ) (places : List ℕ) → OfTerm ss → LetThrough (matches m l ss i places c.heap).answer
        → match_at m ss (most_turns ss + turns) c.heap i ≡ match_at m ss (most_turns ss) c.heap i
    pub unused : (i : ℕ) → c.heap.used ≤ i → (refers m.widest c.heap i ≡ i) × (kind m.widest c.heap i ≡ m.widest)
    pub unused_slots : (i f : ℕ) → c.heap.used ≤ i → f < c.heap.features → slot c.heap i f ≡ None

  -- the case has as many cells and features as before, and no fewer are in use
  pub record SameSize (h g : Heap K) : Type 0 where
    pub used : h.used ≤ g.used
    pub features : g.features ≡ h.features
    pub cells : length g.cells ≡ length h.cells
    pub slots : length g.slots ≡ length h.slots

  -- an accepted call writes the cell of each variable, and keeps the rest of the place list
  abbrev pub Writes : List (Statement K) → List ℕ → Left K → Type 0
  Writes ss places l = (n : ℕ) → l.answer ≡ Ok n → (cells : List ℕ) × (length cells ≡ variables_of ss) × (l.places ≡ cells ++ drop (variables_of ss) places)

  pub record Keeps (c : Case K) : Type 0 where
    pub entering : (l : Lent) (ss : List (Statement K)) (places : List ℕ) → OfTerm ss
        → SameSize c.heap (enters m l ss places c.heap).heap × Writes ss places (enters m l ss places c.heap)
    pub matching : (l : Lent) (ss : List (Statement K)) (i : ℕ) (places : List ℕ) → OfTerm ss
        → SameSize c.heap (matches m l ss i places c.heap).heap × Writes ss places (matches m l ss i places c.heap)
    pub joining : (l : Lent) (i j : ℕ) → SameSize c.heap (joins m l i j c.heap).heap

  abbrev pub MemoryOfRuns : Type 0
  MemoryOfRuns = (n f : ℕ) (calls : List (Made K)) → AllByRecursion (λ c. LawfulCall c.call) calls → Bounded (run m n f calls) × Keeps (run m n f calls)
