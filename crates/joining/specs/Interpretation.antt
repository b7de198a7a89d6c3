-- Structures: things of a type T, each with a kind and at most one thing for each feature; and what a heap says of them.
use Rattle.std.specs.Prelude.{◌≡◌, ℕ, ◌<◌, Some, Option}
use Rattle.orders.specs.Meaning.{Meaning}
use Rattle.joining.specs.Heap.{Heap, refers, kind, slot}

pub record Structure (K T : Type 0) : Type 0 where
  pub kind_of : T → K
  pub feature : ℕ → T → Option T

-- each cell in use stands for a thing of the structure, and says only what is true of it
pub record Sound {K T : Type 0} (m : Meaning K) (s : Structure K T) (thing : ℕ → T) (h : Heap K) : Type 0 where
  pub one : (i : ℕ) → i < h.used → thing (refers m.widest h i) ≡ thing i
  pub kinds : (i : ℕ) → i < h.used → m.under (s.kind_of (thing i)) (kind m.widest h i)
  pub leads : (i f j : ℕ) → i < h.used → f < h.features → slot h i f ≡ Some j → s.feature f (thing i) ≡ Some (thing j)
