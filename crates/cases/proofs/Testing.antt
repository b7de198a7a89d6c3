-- What a test comes to, by what is in the slot.
use Rattle.std.proofs.Common.{◌≡◌, ℕ, ◌+◌, List, take, Some, None, Option, sym, ap, ◌∙◌, add-one}
use Rattle.orders.specs.Meaning.{Meaning}
use Rattle.joining.specs.declared.cell.Cell.{Cell}
use Rattle.joining.specs.Heap.{slot_in}
use Rattle.performing.specs.Performing.{end_of}
use Rattle.instructions.specs.declared.instruction.Instruction.{Instruction}
use Rattle.instructions.specs.declared.instruction.Instruction.TheVariants.{TestFeature}
use Rattle.instructions.specs.declared.instruction.Mode.{Mode}
use Rattle.instructions.specs.declared.instruction.Mode.TheVariants.{Read, Write}
use Rattle.instructions.specs.Steps.{Machine, set_place, tested, step, step_in}
use Rattle.cases.specs.declared.store.pairs.steps.Progress.{Progress}
use Rattle.cases.specs.Memory.{heap_in}
use Rattle.cases.specs.Machines.{machine_in, Tests}

module _ {K : Type 0} (features : ℕ) (cells : List (Cell K)) (slots : List (Option ℕ)) (v d label : ℕ) (before after : List ℕ) (p q : Progress) where
  tested_is : (o : Option ℕ) → Tests v d label o before after p q → tested v d label o (machine_in features cells slots before p) ≡ machine_in features cells slots after q
  tested_is None x =
      sym (ap (machine_in features cells slots after) x.0 ∙ ap (λ (rs : List ℕ). machine_in features cells slots rs (record { used = p.used; set = p.set; mode = Write d; at = label })) x.1)
  tested_is (Some j) x =
      let M : List ℕ → ℕ → Machine K = λ places n. record { state = record { heap = heap_in p.used features cells slots; places = places }; mode = p.mode; at = n } in
      sym (ap (machine_in features cells slots after) x.0 ∙ ap (λ (ps : List ℕ). M ps (p.at + 1)) x.1 ∙ ap (M (set_place v j (take p.set before))) (add-one p.at))

  pub test_step : (m : Meaning K) (ks : List K) (i : Instruction) (r f e : ℕ) → p.mode ≡ Read → i ≡ TestFeature r f v d label
      → e ≡ end_of m (machine_in features cells slots before p).state r
      → Tests v d label (slot_in slots features e f) before after p q
      → step m ks i (machine_in features cells slots before p) ≡ Some (machine_in features cells slots after q)
  test_step m ks i r f e reads is at x =
      let t = machine_in features cells slots before p in
      ap (λ (i : Instruction). step m ks i t) is
      ∙ ap (λ (mode : Mode). step_in m ks mode (TestFeature r f v d label) t) reads
      ∙ ap (λ (e : ℕ). Some (tested v d label (slot_in slots features e f) t)) (sym at)
      ∙ ap Some (tested_is (slot_in slots features e f) x)
