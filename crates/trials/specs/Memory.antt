-- The case in the memory, between the calls. A middle layer: no contract of a public call cites it.
use Rattle.std.specs.Prelude.{◌≡◌, ℕ, false, List, replicate, vec_items, Ok, Err, Result}
use Rattle.refusals.specs.declared.Refusal.{Refusal}
use Rattle.orders.specs.Meaning.{Meaning}
use Rattle.grammar.specs.declared.statement.Statement.{Statement}
use Rattle.joining.specs.Heap.{Heap}
use Rattle.osf.specs.Calls.{Left, too_short_for, enters}
use Rattle.osf.specs.Runs.{History}
use Rattle.osf.specs.Reached.{Reached, case_at}
use Rattle.cases.specs.Calls.{heap_of}
use Rattle.trials.specs.declared.memory.Memory.{Memory}
use Rattle.trials.specs.Trials.{lent_for, all_refused, tried, outcomes_at, outcomes}

module _ {K : Type 0} where
  abbrev pub heap_in : Memory K → Heap K
  heap_in b = heap_of b.case (vec_items b.cells) (vec_items b.slots)

  abbrev pub places_in : Memory K → List ℕ
  places_in b = vec_items b.places

module _ {K : Type 0} (m : Meaning K) where
  -- calls have left the case that is in the memory, and it lies there whole
  pub record Standing (b : Memory K) : Type 0 where
    pub history : History K
    pub reached : Reached m (case_at m (heap_in b) history)
    pub enough : too_short_for b.case.cells b.case.features (lent_for b.features) ≡ false

  -- the same as one word, which only the proofs that need its parts open
  unfoldable pub Stands : Memory K → Type 0
  Stands b = Standing b

  -- what entering an entry answers and leaves of the case in the memory
  abbrev pub entering : Memory K → List (Statement K) → Left K
  entering b entry = enters m (lent_for b.features) entry (places_in b) (heap_in b)

  -- and matching a rule at a root
  abbrev pub matching : Memory K → List (Statement K) → ℕ → Left K
  matching b rule root = tried m b.features rule root (places_in b) (heap_in b)

  -- a heap was opened, which is in the memory, and all places are 0; or it was refused
  abbrev pub Opened : Result (Heap K) Refusal → Memory K → Result (Unit {0}) Refusal → Type 0
  Opened opening after (Ok _) = (opening ≡ Ok (heap_in after)) × (places_in after ≡ replicate 200 0) × Stands after
  Opened opening after (Err e) = opening ≡ Err e

  -- what a call leaves is in the memory
  pub record Holds (left : Left K) (after : Memory K) : Type 0 where
    pub heap_is : heap_in after ≡ left.heap
    pub places_are : places_in after ≡ left.places
    pub stands : Stands after

  -- An entry was entered in the case that is in the memory, at this root: what comes of any rules is what comes of them there. Or it was
  -- refused, and so are they.
  abbrev pub Begun : ℕ → List (Statement K) → Memory K → Result ℕ Refusal → Type 0
  Begun features entry after (Ok root) =
      Stands after × ((rules : List (List (Statement K))) → outcomes m features entry rules ≡ outcomes_at m features root (places_in after) (heap_in after) rules)
  Begun features entry after (Err e) = (rules : List (List (Statement K))) → outcomes m features entry rules ≡ all_refused e rules
