-- What running the codes of a term leaves of cells, slots and a place list. A middle layer: no contract of a public call cites it.
use Rattle.std.specs.Prelude.{◌≡◌, ℕ, List, take, Ok, Err, Option, Result}
use Rattle.joining.specs.declared.cell.Cell.{Cell}
use Rattle.performing.specs.Performing.{State}
use Rattle.cases.specs.declared.store.pairs.steps.Progress.{Progress}
use Rattle.cases.specs.Memory.{heap_in}
use Rattle.cases.specs.Calls.{over}

-- the registers that are set stand first in the place list; or there was a clash, and the place list is as it was
abbrev pub Told : Result Progress ℕ → List ℕ → List ℕ → List ℕ → Result ℕ ℕ → Type 0
Told (Ok p) registers before after r = (r ≡ Ok p.used) × (after ≡ over (take p.set registers) before)
Told (Err s) registers before after r = (r ≡ Err s) × (after ≡ before)

module _ {K : Type 0} (features : ℕ) (places : List ℕ) where
  -- a state with so many cells in use, whose places stand first in the place list
  abbrev pub Written : State K → List (Cell K) → List (Option ℕ) → List ℕ → ℕ → Type 0
  Written s new_cells new_slots new_places used =
      (s.heap ≡ heap_in used features new_cells new_slots) × (new_places ≡ over s.places places)

  -- a state comes of it; or a clash, and all is as it was
  abbrev pub WrittenOrBack : Result (State K) ℕ → List (Cell K) → List (Option ℕ) → List (Cell K) → List (Option ℕ) → List ℕ → Result ℕ ℕ → Type 0
  WrittenOrBack outcome cells slots new_cells new_slots new_places (Ok used) =
      (s : State K) × ((outcome ≡ Ok s) × Written s new_cells new_slots new_places used)
  WrittenOrBack outcome cells slots new_cells new_slots new_places (Err n) =
      (outcome ≡ Err n) × ((new_cells ≡ cells) × ((new_slots ≡ slots) × (new_places ≡ places)))
