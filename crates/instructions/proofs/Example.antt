-- A rule is matched: what is there is read, and what is missing is written.
use Rattle.std.proofs.Common.{◌≡◌, ℕ, List, [], ◌∷◌, Some, None, Ok, Option, refl}
use Rattle.orders.specs.Meaning.{Meaning}
use Rattle.grammar.specs.declared.statement.Statement.{Statement}
use Rattle.grammar.specs.declared.statement.Statement.TheVariants.{Kind, Feature}
use Rattle.joining.specs.Heap.{Heap, refers_in, kind_in, slot_in, follow, put_kind, put_slot, put_new, emptied, new_cell}
use Rattle.performing.specs.Performing.{narrowed, tied}
use Rattle.instructions.specs.Codes.{kinds, closes, entry_from, read_from, write_from}
use Rattle.instructions.specs.Steps.{entered, run}
use Rattle.instructions.specs.Law.{enter, match_at, most_turns}

-- one kind
abbrev one : Meaning (Unit {0})
one =
    record {
      under = λ a b. Unit {0};
      widest = tt;
      common = λ a b. Some tt;
      itself = λ a. tt;
      widest_is = λ a. tt;
      through = λ a b c p q. tt;
      same = λ a b p q. refl;
      common_is = λ a b. (tt, tt, λ d p q. tt);
    }

-- three cells with the features `paid` (0), `back` (1) and `for` (2)
abbrev heap : ℕ → List (Option ℕ) → Heap (Unit {0})
heap used slots = record { used = used; features = 3; cells = new_cell tt 0 ∷ new_cell tt 1 ∷ new_cell tt 2 ∷ []; slots = slots }

abbrev blank : List (Option ℕ)
blank = None ∷ None ∷ None ∷ None ∷ None ∷ None ∷ None ∷ None ∷ None ∷ []

abbrev paid : List (Option ℕ)
paid = Some 1 ∷ None ∷ None ∷ None ∷ None ∷ None ∷ None ∷ None ∷ None ∷ []

-- any(paid=>any)
abbrev entry : List (Statement (Unit {0}))
entry = Kind 0 tt ∷ Feature 0 0 1 ∷ Kind 1 tt ∷ []

entered_so : enter one entry (heap 0 blank) ≡ record { heap = heap 2 paid; places = 0 ∷ 1 ∷ [] }
unfolding kinds entry_from entered refers_in kind_in slot_in follow put_kind put_slot put_new emptied
entered_so = refl

-- any(paid=>any(back=>Y),for=>Y)
abbrev rule : List (Statement (Unit {0}))
rule = Kind 0 tt ∷ Feature 0 0 1 ∷ Kind 1 tt ∷ Feature 1 1 2 ∷ Feature 0 2 2 ∷ []

-- Y is a new cell, to which `back` of the cell 1 and `for` of the cell 0 lead
matched_so : match_at one rule (most_turns rule) (heap 2 paid) 0 ≡
    Ok (record { heap = heap 3 (Some 1 ∷ None ∷ Some 2 ∷ None ∷ Some 2 ∷ None ∷ None ∷ None ∷ None ∷ []); places = 0 ∷ 1 ∷ 2 ∷ [] })
unfolding kinds closes read_from write_from run narrowed tied refers_in kind_in slot_in follow put_kind put_slot put_new emptied
matched_so = refl
