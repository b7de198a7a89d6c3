-- What is told of a term's variables, and running a rule's codes.
use Rattle.std.proofs.Common.{◌≡◌, ℕ, ◌+◌, ◌<◌, ◌≤◌, List, [], ◌∷◌, ◌++◌, length, take, drop, set, true, is_err, Ok, Err, Option, Result, refl, sym, ap, subst, ◌∙◌, length-take-le}
use Rattle.std.proofs.lemmas.List.{take_more_set}
use Rattle.orders.specs.Meaning.{Meaning}
use Rattle.grammar.specs.declared.statement.Statement.{Statement}
use Rattle.joining.specs.Heap.{Heap}
use Rattle.performing.specs.Performing.{State}
use Rattle.instructions.specs.declared.instruction.Instruction.{Instruction}
use Rattle.instructions.specs.declared.instruction.Mode.TheVariants.{Read}
use Rattle.instructions.specs.Codes.{kinds, read_code, write_code}
use Rattle.instructions.specs.Steps.{Machine, run}
use Rattle.instructions.specs.Law.{most_turns, match_at}
use Rattle.joining.specs.declared.cell.Cell.{Cell}
use Rattle.cases.specs.declared.store.pairs.steps.Progress.{Progress}
use Rattle.cases.specs.Machines.{state_in, machine_in, Runs}
use Rattle.cases.specs.Memory.{heap_in}
use Rattle.cases.specs.Terms.{Told, WrittenOrBack}
use Rattle.cases.specs.Calls.{over}

pub noted : (registers places : List ℕ) (n : ℕ) → n ≤ length registers → take n registers ++ drop n places ≡ over (take n registers) places
noted registers places n l = ap (λ (k : ℕ). take n registers ++ drop k places) (sym (length-take-le n registers l))

-- a root's register is the first that is set
pub rooted_first : (registers : List ℕ) (cell : ℕ) → 0 < length registers → take 1 (set registers 0 cell) ≡ cell ∷ []
rooted_first registers cell l = take_more_set registers 0 cell l

module _ {K : Type 0} (m : Meaning K) (ss : List (Statement K)) (ks : List K) (reads writes : List Instruction)
    (kinds_are : ks ≡ kinds ss) (reads_are : reads ≡ read_code ss) (writes_are : writes ≡ write_code ss) where
  abbrev from : Heap K → List ℕ → Machine K
  from h places = record { state = record { heap = h; places = places }; mode = Read; at = 0 }

  from_root : (h : Heap K) (places : List ℕ) (cell : ℕ) → places ≡ cell ∷ []
      → match_at m ss (most_turns ss) h cell ≡ run m ks reads writes (length reads + length writes) (from h places)
  from_root h places cell root =
      ap (λ (k : List K). run m k (read_code ss) (write_code ss) (most_turns ss) (from h (cell ∷ []))) (sym kinds_are)
      ∙ ap (λ (is : List Instruction). run m ks is (write_code ss) (length is + length (write_code ss)) (from h (cell ∷ []))) (sym reads_are)
      ∙ ap (λ (is : List Instruction). run m ks reads is (length reads + length is) (from h (cell ∷ []))) (sym writes_are)
      ∙ ap (λ (ps : List ℕ). run m ks reads writes (length reads + length writes) (from h ps)) (sym root)

  -- running a rule's codes from its root on is matching it
  pub rule_run : (used features : ℕ) (cells : List (Cell K)) (slots : List (Option ℕ)) (registers : List ℕ) (cell : ℕ) (p : Progress)
      → p ≡ record { used = used; set = 1; mode = Read; at = 0 } → take 1 registers ≡ cell ∷ []
      → match_at m ss (most_turns ss) (heap_in used features cells slots) cell
      ≡ run m ks reads writes (length reads + length writes) (machine_in features cells slots registers p)
  rule_run used features cells slots registers cell p e root =
      from_root (heap_in used features cells slots) (take 1 registers) cell root
      ∙ ap (λ (q : Progress). run m ks reads writes (length reads + length writes) (machine_in features cells slots registers q)) (sym e)

-- what is told of a rule that was run
module _ {K : Type 0} (features : ℕ) (outcome : Result (State K) ℕ) (cells new_cells : List (Cell K)) (slots new_slots : List (Option ℕ)) (registers places new_places : List ℕ) where
  pub told : (r : Result Progress ℕ) (ran : Result (State K) ℕ) → outcome ≡ ran → Runs ran (state_in features new_cells new_slots registers) r
      → (is_err r ≡ true → (new_cells ≡ cells) × (new_slots ≡ slots))
      → (q : Result ℕ ℕ) → Told r registers places new_places q → WrittenOrBack features places outcome cells slots new_cells new_slots new_places q
  told (Ok p) ran is o back q (e, listed) = subst (WrittenOrBack features places outcome cells slots new_cells new_slots new_places) (sym e) (_, (is ∙ o, (refl, listed)))
  told (Err s) ran is o back q (e, listed) =
      subst (WrittenOrBack features places outcome cells slots new_cells new_slots new_places) (sym e) (is ∙ o, ((back refl).0, ((back refl).1, listed)))
