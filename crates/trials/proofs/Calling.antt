-- A call on the case in the memory: what it answers, and that what it leaves is in the memory then.
use Rattle.std.proofs.Common.{◌≡◌, ℕ, false, List, length, vec_items, Vec, Ok, Err, Option, Result, sym, ap, subst, ◌∙◌}
use Rattle.std.proofs.lemmas.Bool.{cond-false}
use Rattle.std.proofs.lemmas.List.{with_items_is}
use Rattle.std.specs.Vec.{with_items}
use Rattle.refusals.specs.declared.Refusal.{Refusal}
use Rattle.orders.specs.Meaning.{Meaning}
use Rattle.grammar.specs.declared.statement.Statement.{Statement}
use Rattle.joining.specs.declared.cell.Cell.{Cell}
use Rattle.joining.specs.Heap.{Heap}
use Rattle.osf.specs.Calls.{Lent, Left, too_short_for, opens, enters, matches}
use Rattle.osf.specs.Runs.{History, Call, no_calls, after_call, enter as entered, match_rule as matched}
use Rattle.osf.specs.Reached.{Reached, Opens, case_at}
use Rattle.cases.specs.declared.case.Case.{Case}
use Rattle.cases.specs.Calls.{lent, heap_of, as_opened, enter_of, match_of, Kept}
use Rattle.cases.specs.Law.{LawIn}
use Rattle.trials.specs.declared.memory.Memory.{Memory}
use Rattle.trials.specs.Trials.{lent_for, tried}
use Rattle.trials.specs.Memory.{heap_in, entering, matching, Stands, Holds}
use Rattle.trials.proofs.Standing.{opens_as, reached_by}

-- what is lent of a `Vec` is put back
pub put_back : {X Z : Type 0} (v : Vec X Z) (xs new : List X) → xs ≡ vec_items v → length new ≡ length xs → vec_items (with_items v new) ≡ new
put_back v xs new e long = with_items_is v new (long ∙ ap length e ∙ sym v.ok.0)

same_heap : {K : Type 0} (case : Case) (cells other_cells : List (Cell K)) (slots other_slots : List (Option ℕ)) → cells ≡ other_cells → slots ≡ other_slots
    → heap_of case cells slots ≡ heap_of case other_cells other_slots
same_heap case cells other_cells slots other_slots p q i = heap_of case (p i) (q i)

module _ {K : Type 0} (b : Memory K) (cells : List (Cell K)) (slots : List (Option ℕ)) (pending : List (ℕ × ℕ)) (spare_cells : List (Cell K)) (spare_slots : List (Option ℕ))
    (cells_are : cells ≡ vec_items b.cells) (slots_are : slots ≡ vec_items b.slots) where
  -- the memory is just long enough
  pub lent_is : pending ≡ vec_items b.pending → spare_cells ≡ vec_items b.spare_cells → spare_slots ≡ vec_items b.spare_slots
      → lent cells slots pending spare_cells spare_slots ≡ lent_for b.features
  lent_is p c s i =
      record {
        cells = (ap length cells_are ∙ b.cells_are) i;
        slots = (ap length slots_are ∙ b.slots_are) i;
        pending = (ap length p ∙ b.pending_are) i;
        spare_cells = (ap length c ∙ b.spare_cells_are) i;
        spare_slots = (ap length s ∙ b.spare_slots_are) i;
      }

module _ {K : Type 0} (m : Meaning K) (b : Memory K) (stands : Stands m b) (l : Lent) (is : l ≡ lent_for b.features)
    (cells : List (Cell K)) (slots : List (Option ℕ)) (places : List ℕ)
    (cells_are : cells ≡ vec_items b.cells) (slots_are : slots ≡ vec_items b.slots) (places_are : places ≡ vec_items b.places) where
  abbrev h : Heap K
  h = heap_of b.case cells slots

  same : h ≡ heap_in b
  same = same_heap b.case cells (vec_items b.cells) slots (vec_items b.slots) cells_are slots_are

  long : too_short_for b.case.cells b.case.features l ≡ false
  unfolding Stands
  long = ap (λ l. too_short_for b.case.cells b.case.features l) is ∙ stands.enough

  entering_is : (ss : List (Statement K)) → enter_of m l b.case ss places cells slots ≡ entering m b ss
  entering_is ss =
      cond-false _ _ _ long
      ∙ ap (λ l. enters m l ss places h) is
      ∙ ap (λ g. enters m (lent_for b.features) ss places g) same
      ∙ ap (λ ps. enters m (lent_for b.features) ss ps (heap_in b)) places_are

  pub entering_answer : (ss : List (Statement K)) (r : Result ℕ Refusal) → r ≡ (enter_of m l b.case ss places cells slots).answer
      → r ≡ (entering m b ss).answer
  entering_answer ss r e = e ∙ ap (λ (x : Left K). x.answer) (entering_is ss)

  matching_is : (ss : List (Statement K)) (i : ℕ) → match_of m l b.case ss i places cells slots ≡ matching m b ss i
  unfolding tried
  matching_is ss i =
      cond-false _ _ _ long
      ∙ ap (λ l. matches m l ss i places h) is
      ∙ ap (λ g. matches m (lent_for b.features) ss i places g) same
      ∙ ap (λ ps. matches m (lent_for b.features) ss i ps (heap_in b)) places_are

  pub matching_answer : (ss : List (Statement K)) (i : ℕ) (r : Result ℕ Refusal) → r ≡ (match_of m l b.case ss i places cells slots).answer
      → r ≡ (matching m b ss i).answer
  matching_answer ss i r e = e ∙ ap (λ (x : Left K). x.answer) (matching_is ss i)

  module _ (after : Memory K) (features_are : after.features ≡ b.features) (new_cells : List (Cell K)) (new_slots : List (Option ℕ)) (new_places : List ℕ)
      (new_cells_are : vec_items after.cells ≡ new_cells) (new_slots_are : vec_items after.slots ≡ new_slots) (new_places_are : vec_items after.places ≡ new_places) where
    holds : (call : Call K) (x left : Left K) → x ≡ left → ((t : History K) → (after_call m call places l (case_at m h t)).heap ≡ x.heap)
        → Kept x b.case cells slots after.case new_cells new_slots new_places → LawIn m b.case l call places h (heap_of after.case new_cells new_slots) → Holds m left after
    unfolding Stands
    holds call x left e leaves kept law =
        let goes = law long stands.history (subst (λ g. Reached m (case_at m g stands.history)) (sym same) stands.reached) in
        let (history, reached) = reached_by m _ h _ stands.history goes in
        let now = same_heap after.case (vec_items after.cells) new_cells (vec_items after.slots) new_slots new_cells_are new_slots_are in
        record {
          heap_is = now ∙ sym goes.leaves ∙ leaves stands.history ∙ ap (λ (x : Left K). x.heap) e;
          places_are = new_places_are ∙ kept.1.1.1 ∙ ap (λ (x : Left K). x.places) e;
          stands = record {
            history = history;
            reached = subst (λ g. Reached m (case_at m g history)) (sym now) reached;
            enough = ap (λ (c : Case). too_short_for c.cells c.features (lent_for after.features)) kept.0 ∙ ap (λ f. too_short_for b.case.cells b.case.features (lent_for f)) features_are ∙ stands.enough;
          };
        }

    pub entering_holds : (ss : List (Statement K)) → Kept (enter_of m l b.case ss places cells slots) b.case cells slots after.case new_cells new_slots new_places
        → LawIn m b.case l (entered ss) places h (heap_of after.case new_cells new_slots) → Holds m (entering m b ss) after
    unfolding after_call
    entering_holds ss = holds (entered ss) _ _ (entering_is ss) (λ t. sym (ap (λ (x : Left K). x.heap) (cond-false _ _ _ long)))

    pub matching_holds : (ss : List (Statement K)) (i : ℕ) → Kept (match_of m l b.case ss i places cells slots) b.case cells slots after.case new_cells new_slots new_places
        → LawIn m b.case l (matched ss i) places h (heap_of after.case new_cells new_slots) → Holds m (matching m b ss i) after
    unfolding after_call
    matching_holds ss i = holds (matched ss i) _ _ (matching_is ss i) (λ t. sym (ap (λ (x : Left K). x.heap) (cond-false _ _ _ long)))

-- a case that was opened is in the memory
pub opened_stands : {K : Type 0} (m : Meaning K) (after : Memory K) (l : Lent) (is : l ≡ lent_for after.features) (cells : List (Cell K)) (slots : List (Option ℕ))
    → vec_items after.cells ≡ cells → vec_items after.slots ≡ slots → Ok after.case ≡ as_opened (opens m.widest 256 after.features l)
    → Opens m 256 after.features (heap_of after.case cells slots)
    → (opens m.widest 256 after.features (lent_for after.features) ≡ Ok (heap_in after)) × Stands m after
unfolding Stands
opened_stands {K} m after l is cells slots cells_are slots_are answer law =
    let (opens_is, enough) = opens_as m after.features l after.case answer in
    let now = same_heap after.case (vec_items after.cells) cells (vec_items after.slots) slots cells_are slots_are in (
      ap (λ l. opens m.widest 256 after.features l) (sym is) ∙ opens_is ∙ ap (λ (h : Heap K). Ok h) (law.leaves ∙ sym now),
      record {
        history = no_calls;
        reached = subst (λ g. Reached m (case_at m g no_calls)) (sym now) law.reached;
        enough = ap (λ l. too_short_for after.case.cells after.case.features l) (sym is) ∙ enough;
      },
    )

refused_as : {K : Type 0} (r : Result (Heap K) Refusal) (e : Refusal) → Err e ≡ as_opened r → r ≡ Err e
refused_as (Ok h) e is = absurd cc
refused_as (Err d) e is = cc

-- or the opening was refused
pub opening_refused : {K : Type 0} (m : Meaning K) (features : ℕ) (l : Lent) → l ≡ lent_for features → (e : Refusal) → Err e ≡ as_opened (opens m.widest 256 features l)
    → opens m.widest 256 features (lent_for features) ≡ Err e
opening_refused m features l is e answer = ap (λ l. opens m.widest 256 features l) (sym is) ∙ refused_as (opens m.widest 256 features l) e answer
