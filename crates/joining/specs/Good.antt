-- Heaps in order: references and contents stay among the cells in use, coreferences lead to a cell that refers to itself, and the cells
-- that are not in use are as `push` leaves them.
use Rattle.std.specs.Prelude.{◌≡◌, ℕ, zero, suc, ◌*◌, ◌<◌, ◌≤◌, cond, length, Some, None, ◌==◌}
use Rattle.joining.specs.Heap.{Heap, refers, kind, slot, follow}

-- how many numbers below n do not refer to themselves
unfoldable pub away : (ℕ → ℕ) → ℕ → ℕ
away r zero = zero
away r (suc n) = cond (r n == n) (away r n) (suc (away r n))

-- from i one comes to a cell that refers to itself, in n steps at most
abbrev pub Reaches : (ℕ → ℕ) → ℕ → ℕ → Type 0
Reaches r n i = (k : ℕ) × (k ≤ n) × (r (follow r k i) ≡ follow r k i)

pub record Good {K : Type 0} (top : K) (h : Heap K) : Type 0 where
  pub room : h.used ≤ length h.cells
  pub size : length h.slots ≡ length h.cells * h.features
  pub inside : (i : ℕ) → i < h.used → refers top h i < h.used
  pub reaches : (i : ℕ) → i < h.used → Reaches (refers top h) (away (refers top h) h.used) i
  pub held : (i f j : ℕ) → i < h.used → f < h.features → slot h i f ≡ Some j → j < h.used
  pub fresh_refers : (i : ℕ) → h.used ≤ i → refers top h i ≡ i
  pub fresh_kind : (i : ℕ) → h.used ≤ i → kind top h i ≡ top
  pub fresh_slot : (i f : ℕ) → h.used ≤ i → f < h.features → slot h i f ≡ None
