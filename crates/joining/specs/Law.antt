-- What joining two cells does: it adds to the heap what follows from the two being one, and nothing else.
use Rattle.std.specs.Prelude.{◌≡◌, ℕ, ◌+◌, ◌<◌, [], ◌∷◌, length, Some, None, Option}
use Rattle.orders.specs.Meaning.{Meaning}
use Rattle.joining.specs.Heap.{Heap, kind, slot, end}
use Rattle.joining.specs.Good.{Good}
use Rattle.joining.specs.Interpretation.{Structure, Sound}
use Rattle.joining.specs.Joining.{most_pairs, join, join_all}

-- what h says of its cells, g says too: ends that are one are one there, kinds are at or under what they were, and a feature that leads
-- from an end leads to the same end
pub record Extends {K : Type 0} (m : Meaning K) (h g : Heap K) : Type 0 where
  pub ends : (x y : ℕ) → x < h.used → y < h.used → end m.widest h x ≡ end m.widest h y → end m.widest g x ≡ end m.widest g y
  pub kinds : (x : ℕ) → x < h.used → m.under (kind m.widest g (end m.widest g x)) (kind m.widest h (end m.widest h x))
  pub leads : (x f j : ℕ) → x < h.used → f < h.features → slot h (end m.widest h x) f ≡ Some j
      → (k : ℕ) × (slot g (end m.widest g x) f ≡ Some k) × (end m.widest g k ≡ end m.widest g j)

-- the heap g that comes of joining the cells a and b of h
pub record Joins {K : Type 0} (T : Type 0) (m : Meaning K) (a b : ℕ) (h g : Heap K) : Type 0 where
  pub good : Good m.widest g
  pub used : g.used ≡ h.used
  pub features : g.features ≡ h.features
  pub cells : length g.cells ≡ length h.cells
  pub slots : length g.slots ≡ length h.slots
  pub one : end m.widest g a ≡ end m.widest g b
  pub extends : Extends m h g
  pub sound : (s : Structure K T) (thing : ℕ → T) → Sound m s thing h → thing a ≡ thing b → Sound m s thing g

-- the two are one in no structure
abbrev pub Never : {K : Type 0} (T : Type 0) → Meaning K → ℕ → ℕ → Heap K → Type 0
Never {K} T m a b h = (s : Structure K T) (thing : ℕ → T) → Sound m s thing h → thing a ≡ thing b → ⊥

abbrev pub Outcome : {K : Type 0} (T : Type 0) → Meaning K → ℕ → ℕ → Heap K → Option (Heap K) → Type 0
Outcome T m a b h (Some g) = Joins T m a b h g
Outcome T m a b h None = Never T m a b h

-- more room for pairs and more turns would change nothing: no pair is left out, and none is left
abbrev pub Settles : {K : Type 0} → Meaning K → ℕ → ℕ → Heap K → Type 0
Settles m a b h = (more longer : ℕ) → join_all m (most_pairs h + more) (most_pairs h + longer) ((a, b) ∷ []) h ≡ join m a b h

abbrev pub JoinLaw : {K : Type 0} (T : Type 0) → Meaning K → Type 0
JoinLaw {K} T m = (h : Heap K) (a b : ℕ) → Good m.widest h → a < h.used → b < h.used → Outcome T m a b h (join m a b h) × Settles m a b h
