-- What an entry that was run leaves, and a rule.
use Rattle.std.proofs.Common.{◌≡◌, ℕ, List, ◌++◌, length, take, drop, Ok, Err, Option, Result, sym, ap, ◌∙◌, subst}
use Rattle.refusals.specs.declared.Refusal.{Refusal}
use Rattle.refusals.specs.declared.Refusal.TheVariants.{Clash}
use Rattle.orders.specs.Meaning.{Meaning}
use Rattle.grammar.specs.declared.statement.Statement.{Statement}
use Rattle.joining.specs.declared.cell.Cell.{Cell}
use Rattle.joining.specs.Heap.{Heap}
use Rattle.performing.specs.Performing.{State}
use Rattle.instructions.specs.Law.{most_turns, enter, match_at}
use Rattle.osf.specs.Calls.{Lent, Left, accepted, accepted_if}
use Rattle.cases.specs.declared.case.Case.{Case}
use Rattle.cases.specs.Memory.{heap_in}
use Rattle.cases.specs.Calls.{with_used, heap_of}
use Rattle.cases.specs.Terms.{Written, WrittenOrBack}
use Rattle.cases.proofs.JoinOf.{whole_cells, whole_slots}
use Rattle.cases.proofs.Parts.{part_back}
use Rattle.cases.proofs.TermOf.{Leaves, leaves_refused, leaves_accepted}
use Rattle.cases.proofs.Beginning.{Fits}

module _ {K : Type 0} (m : Meaning K) (l : Lent) (case : Case) (ss : List (Statement K)) (places : List ℕ) (cells : List (Cell K)) (slots : List (Option ℕ))
    (lent_cells : l.cells ≡ length cells) (lent_slots : l.slots ≡ length slots) (need size : ℕ) (fits : Fits m l case ss places cells slots need size)
    (new_cells : List (Cell K)) (new_slots : List (Option ℕ)) (new_places : List ℕ) where
  abbrev h : Heap K
  h = heap_of case cells slots

  abbrev part : Heap K
  part = heap_in case.used case.features (take case.cells cells) (take size slots)

  part_is : part ≡ h
  part_is = ap (λ (n : ℕ). heap_in case.used case.features (take case.cells cells) (take n slots)) fits.sizes

  abbrev After : Left K → Result ℕ Refusal → Case → Type 0
  After x answer new_case = Leaves case cells slots places x answer new_case (new_cells ++ drop case.cells cells) (new_slots ++ drop size slots) new_places

  module _ (used : ℕ) (many_cells : length new_cells ≡ length (take case.cells cells)) (many_slots : length new_slots ≡ length (take size slots))
      (new_case : Case) (told : new_case ≡ with_used case used) where
    written : (x : Left K) (s : State K) → x ≡ accepted s places → Written case.features places s new_cells new_slots new_places used → After x (Ok used) new_case
    written x s q w =
        leaves_accepted case cells slots places x s q size used fits.sizes new_cells new_slots new_places
        (many_cells ∙ whole_cells case cells slots l lent_cells lent_slots fits.enough)
        (many_slots ∙ whole_slots case cells slots l lent_cells lent_slots fits.enough size fits.sizes)
        w.0 w.1 new_case told

    pub entry_left : (x : Left K) → x ≡ accepted (enter m ss h) places → Written case.features places (enter m ss part) new_cells new_slots new_places used
        → After x (Ok used) new_case
    entry_left x q w = written x (enter m ss part) (q ∙ ap (λ (g : Heap K). accepted (enter m ss g) places) (sym part_is)) w

    pub rule_left : (i : ℕ) (x : Left K) → x ≡ accepted_if (match_at m ss (most_turns ss) h i) h places
        → WrittenOrBack case.features places (match_at m ss (most_turns ss) part i) (take case.cells cells) (take size slots) new_cells new_slots new_places (Ok used)
        → After x (Ok used) new_case
    rule_left i x q (s, (e, w)) =
        written x s
        (q ∙ ap (λ (g : Heap K). accepted_if (match_at m ss (most_turns ss) g i) h places) (sym part_is) ∙ ap (λ (r : Result (State K) ℕ). accepted_if r h places) e)
        w

  pub rule_back : (i n : ℕ) (x : Left K) → x ≡ accepted_if (match_at m ss (most_turns ss) h i) h places
      → WrittenOrBack case.features places (match_at m ss (most_turns ss) part i) (take case.cells cells) (take size slots) new_cells new_slots new_places (Err n)
      → After x (Err (Clash n)) case
  rule_back i n x q (e, (same_cells, (same_slots, same_places))) =
      let left = q ∙ ap (λ (g : Heap K). accepted_if (match_at m ss (most_turns ss) g i) h places) (sym part_is) ∙ ap (λ (r : Result (State K) ℕ). accepted_if r h places) e in
      subst (λ (ps : List ℕ). Leaves case cells slots places x (Err (Clash n)) case (new_cells ++ drop case.cells cells) (new_slots ++ drop size slots) ps) (sym same_places)
      (subst (λ (cs : List (Cell K)). Leaves case cells slots places x (Err (Clash n)) case cs (new_slots ++ drop size slots) places) (sym (part_back case.cells cells new_cells same_cells))
      (subst (λ (ts : List (Option ℕ)). Leaves case cells slots places x (Err (Clash n)) case cells ts places) (sym (part_back size slots new_slots same_slots))
      (leaves_refused case cells slots places (Clash n) x left)))
