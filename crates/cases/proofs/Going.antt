-- The law at an opening, at a join and at questions.
use Rattle.std.proofs.Common.{◌≡◌, ℕ, ◌*◌, Bool, true, false, cond, List, [], length, take, drop, Ok, Err, Option, Result, IfOk, refl, sym, ap, subst, ◌∙◌}
use Rattle.std.proofs.lemmas.Bool.{cond-false}
use Rattle.refusals.specs.declared.Refusal.{Refusal}
use Rattle.refusals.specs.declared.Refusal.TheVariants.{Memory}
use Rattle.orders.specs.Meaning.{Meaning}
use Rattle.joining.specs.declared.cell.Cell.{Cell}
use Rattle.joining.specs.Heap.{Heap, opened}
use Rattle.joining.proofs.Opening.{opened_good}
use Rattle.osf.specs.Calls.{Lent, Left}
use Rattle.osf.specs.Runs.{after_call, join as joined_by, ask_kind, ask_feature}
use Rattle.osf.specs.Reached.{Opens}
use Rattle.osf.proofs.Going.{law_at, law_opened}
use Rattle.cases.specs.declared.case.Case.{Case}
use Rattle.cases.specs.Memory.{heap_in}
use Rattle.cases.specs.Calls.{over, heap_of, as_opened, OpenedIn, join_of}
use Rattle.cases.specs.Law.{LawIn, LawAsked}
use Rattle.cases.proofs.Parts.{first_part}

module _ {K : Type 0} (m : Meaning K) where
  -- the heap of a case that was opened
  module _ (n f : ℕ) (cells new_cells : List (Cell K)) (slots new_slots : List (Option ℕ)) where
    abbrev h : Heap K
    h = opened m.widest n f

    opened_first : (new_cells ≡ over h.cells cells) × (new_slots ≡ over h.slots slots)
        → h ≡ heap_of (record { cells = length h.cells; features = f; used = 0 }) new_cells new_slots
    opened_first (cs, ss) =
        ap (λ (xs : List (Cell K)). heap_in 0 f xs h.slots) (sym (ap (take (length h.cells)) cs ∙ first_part _ h.cells (drop (length h.cells) cells) refl))
        ∙ ap (λ (xs : List (Option ℕ)). heap_in 0 f (take (length h.cells) new_cells) xs)
        (sym (ap (take (length h.cells * f)) ss ∙ first_part _ h.slots (drop (length h.slots) slots) (opened_good m.widest n f).size))

    pub law_of_opened : (b : Bool) (r : Result Case Refusal) → r ≡ as_opened (cond b (Ok h) (Err Memory)) → OpenedIn (cond b (Ok h) (Err Memory)) cells slots new_cells new_slots
        → IfOk r (λ c. Opens m n f (heap_of c new_cells new_slots))
    law_of_opened true r e k =
        subst (λ (r : Result Case Refusal). IfOk r (λ c. Opens m n f (heap_of c new_cells new_slots))) (sym e)
        (law_opened m n f _ (opened_first k))
    law_of_opened false r e k = subst (λ (r : Result Case Refusal). IfOk r (λ c. Opens m n f (heap_of c new_cells new_slots))) (sym e) tt

  pub law_joined : (l : Lent) (case : Case) (i j : ℕ) (cells : List (Cell K)) (slots : List (Option ℕ)) (g : Heap K) → (join_of m l case i j cells slots).heap ≡ g
      → LawIn m case l (joined_by i j) [] (heap_of case cells slots) g
  unfolding after_call
  law_joined l case i j cells slots g q enough =
      law_at m (record { call = joined_by i j; places = []; lent = l }) tt (heap_of case cells slots) g (λ t. ap (λ (x : Left K). x.heap) (sym (cond-false _ _ _ enough)) ∙ q)

  pub law_kind_asked : (l : Lent) (i : ℕ) (h : Heap K) → LawAsked m l (ask_kind i) h
  unfolding after_call
  law_kind_asked l i h = law_at m (record { call = ask_kind i; places = []; lent = l }) tt h h (λ t. refl)

  pub law_feature_asked : (l : Lent) (i f : ℕ) (h : Heap K) → LawAsked m l (ask_feature i f) h
  unfolding after_call
  law_feature_asked l i f h = law_at m (record { call = ask_feature i f; places = []; lent = l }) tt h h (λ t. refl)
