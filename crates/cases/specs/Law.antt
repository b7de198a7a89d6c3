-- The law of a run at a call on lent memory.
use Rattle.std.specs.Prelude.{◌≡◌, ℕ, false, List, []}
use Rattle.orders.specs.Meaning.{Meaning}
use Rattle.joining.specs.Heap.{Heap}
use Rattle.osf.specs.Calls.{Lent, too_short_for}
use Rattle.osf.specs.Runs.{Call}
use Rattle.osf.specs.Reached.{LawAt}
use Rattle.cases.specs.declared.case.Case.{Case}

module _ {K : Type 0} (m : Meaning K) where
  -- The call goes on from the heap before to the heap after, in a memory in which the case lies whole. In a shorter one the call is refused
  -- for reason 6 and nothing is changed; no calls have left what is there of the case.
  abbrev pub LawIn : Case → Lent → Call K → List ℕ → Heap K → Heap K → Type 0
  LawIn case l call places before after =
      too_short_for case.cells case.features l ≡ false → LawAt m (record { call = call; places = places; lent = l }) before after

  -- a question leaves the heap as it is
  abbrev pub LawAsked : Lent → Call K → Heap K → Type 0
  LawAsked l call h = LawAt m (record { call = call; places = []; lent = l }) h h
