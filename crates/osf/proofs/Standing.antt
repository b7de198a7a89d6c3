-- What is so of a case after any calls: the heap is in order, the case makes true what stands, and it says only what every
-- interpretation of what stands says.
use Rattle.std.proofs.Common.{◌≡◌, ℕ, ◌<◌}
use Rattle.std.specs.List.{AllByRecursion}
use Rattle.orders.specs.Meaning.{Meaning}
use Rattle.joining.specs.Good.{Good}
use Rattle.joining.specs.Interpretation.{Sound}
use Rattle.performing.specs.Structures.{structure_of}
use Rattle.osf.specs.Facts.{Holds, Interpretation}
use Rattle.osf.specs.Runs.{Case}
use Rattle.osf.specs.Law.{thing_of}
use Rattle.osf.proofs.Holding.{Among}

module _ {K : Type 0} (m : Meaning K) where
  -- variables have cells in use, cells in use have variables whose cells they are, and the case makes the facts true
  pub record Stands (c : Case K) : Type 0 where
    pub good : Good m.widest c.heap
    pub cells : (x : ℕ) → x < c.history.variables → c.history.cell_of x < c.heap.used
    pub known : (i : ℕ) → i < c.heap.used → c.history.variable_of i < c.history.variables
    pub own : (i : ℕ) → i < c.heap.used → c.history.cell_of (c.history.variable_of i) ≡ i
    pub among : AllByRecursion (Among c.history.variables) c.history.facts
    pub true_of : AllByRecursion (Holds m (structure_of m c.heap) (thing_of m c)) c.history.facts

  -- in an interpretation of the facts each cell is its variable's thing, and the heap says only what is true of it
  pub record Tells {T : Type 0} (c : Case K) (v : Interpretation T m c.history.facts) : Type 0 where
    pub sound : Sound m v.structure (λ i. v.thing (c.history.variable_of i)) c.heap
    pub values : (x : ℕ) → x < c.history.variables → v.thing (c.history.variable_of (c.history.cell_of x)) ≡ v.thing x

  abbrev pub TellsAll : Type 0 → Case K → Type 0
  TellsAll T c = (v : Interpretation T m c.history.facts) → Tells c v
