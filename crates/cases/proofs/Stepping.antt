-- A step of a machine whose registers have none but the first n cells: it comes to no cell past them, and nor do those after it.
use Rattle.std.proofs.Common.{◌≡◌, ℕ, suc, ◌<◌, cond, List, [], ◌∷◌, get_or, Some, None, Option, Bool, true, false, nat_le, slice_get, option_map, refl, sym, ◌∙◌, subst, arith}
use Rattle.orders.specs.Meaning.{Meaning}
use Rattle.joining.specs.declared.cell.Cell.{Cell}
use Rattle.joining.specs.Heap.{kind, slot}
use Rattle.joining.specs.Joining.{most_pairs, join}
use Rattle.performing.specs.Performing.{State, with_heap, end_of, narrowed, tied}
use Rattle.instructions.specs.declared.instruction.Instruction.{Instruction}
use Rattle.instructions.specs.declared.instruction.Instruction.TheVariants.{PushCell, SetSort, SetFeature, IntersectSort, TestFeature, UnifyFeature, WriteTest}
use Rattle.instructions.specs.declared.instruction.Mode.{Mode}
use Rattle.instructions.specs.declared.instruction.Mode.TheVariants.{Read, Write}
use Rattle.instructions.specs.Steps.{Machine, set_place, place, on, tested, present_in, step_in, step}
use Rattle.cases.specs.Within.{Beyond}
use Rattle.cases.specs.Pushing.{Uses, Onward, Codes, Room}
use Rattle.cases.specs.Machines.{StateWithin, RunsWithin}
use Rattle.cases.proofs.Keeping.{JoinKeeps, all_keep}
use Rattle.cases.proofs.Running.{all_got}
use Rattle.cases.proofs.Pushing.{read_on, read_write, write_on, write_read, may_push}
use Rattle.cases.proofs.Placing.{placed_below, StateKeeps, end_below, stays, kind_set, filled, one_pushed, joined}

-- the instruction that is present uses a feature of the case
pub present_uses : (reads writes : List Instruction) (features : ℕ) → Codes reads writes features → (mode : Mode) (at : ℕ) (i : Instruction)
    → present_in reads writes mode at ≡ Some i → Uses features i
present_uses reads writes features c Read at i e = all_got (Uses features) reads at i c.reads_use e
present_uses reads writes features c (Write d) at i e = all_got (Uses features) writes at i c.writes_use e

module _ {K : Type 0} (m : Meaning K) (n : ℕ) (reads writes : List Instruction) where
  pub record StepsTo (s : State K) (u : Machine K) : Type 0 where
    pub state : StateKeeps m n s u.state
    pub room : Room reads writes n u.mode u.at u.state.heap.used

  abbrev pub StepKeeps : State K → Option (Machine K) → Type 0
  StepKeeps s (Some u) = StepsTo s u
  StepKeeps s None = Unit {0}

  module _ (s : State K) (x : StateWithin m n s) (at : ℕ) where
    abbrev reading : Machine K
    reading = record { state = s; mode = Read; at = at }

    abbrev writing : ℕ → Machine K
    writing d = record { state = s; mode = Write d; at = at }

    module _ (room : Room reads writes n Read at s.heap.used) where
      reads_on : (u : State K) → StateKeeps m n s u → u.heap.used ≡ s.heap.used → StepsTo s (on reading u)
      reads_on u k e = record { state = k; room = subst (Room reads writes n Read (suc at)) (sym e) (read_on reads writes n at s.heap.used room) }

      narrowed_keeps : (e : ℕ) (o : Option K) → e < n → StepKeeps s (option_map (on reading) (narrowed m e o s))
      unfolding narrowed
      narrowed_keeps e None l = tt
      narrowed_keeps e (Some k) l = reads_on _ (kind_set m n s x e k l) refl

      tested_keeps : (r f v d label : ℕ) (o : Option ℕ) → slice_get reads at ≡ Some (TestFeature r f v d label) → ((j : ℕ) → o ≡ Some j → j < n)
          → StepsTo s (tested v d label o reading)
      tested_keeps r f v d label None e b = record { state = stays m n s x; room = read_write reads writes n at s.heap.used r f v d label e room }
      tested_keeps r f v d label (Some j) e b =
          reads_on (record { heap = s.heap; places = set_place v j s.places })
          (record { features = refl; state = record { heap = x.heap; places = placed_below n s.places x.places j (b j refl) v }; beyond = (refl, refl) })
          refl

      tied_keeps : (e f c : ℕ) (o : Option ℕ) → ((j : ℕ) → o ≡ Some j → j < n) → e < n → f < s.heap.features → c < n
          → StepKeeps s (option_map (on reading) (tied m e f c o s))
      unfolding tied
      tied_keeps e f c None b l lf lc = reads_on _ (filled m n s x e f c l lf lc) refl
      tied_keeps e f c (Some j) b l lf lc =
          (elim (join m j c s.heap) as (λ r. JoinKeeps m n s.heap r → StepKeeps s (option_map (on reading) (elim r [ Some h ↦ Some (with_heap s h) | None ↦ None ]))) [
            | Some h ↦ λ y. reads_on (with_heap s h) (joined m n s x h y) y.used
            | None ↦ λ y. tt
          ])
          (all_keep m n (most_pairs s.heap) (most_pairs s.heap) ((j, c) ∷ []) s.heap x.heap (b j refl, lc, tt))

      read_keeps : (ks : List K) (i : Instruction) → Uses s.heap.features i → slice_get reads at ≡ Some i → StepKeeps s (step_in m ks Read i reading)
      read_keeps ks (IntersectSort r j) u e = narrowed_keeps (end_of m s r) (m.common (kind m.widest s.heap (end_of m s r)) (get_or ks j m.widest)) (end_below m n s x r)
      read_keeps ks (TestFeature r f v d label) u e =
          tested_keeps r f v d label (slot s.heap (end_of m s r) f) e (λ j q. x.heap.leads (end_of m s r) f j (end_below m n s x r) u q)
      read_keeps ks (UnifyFeature r f v) u e =
          tied_keeps (end_of m s r) f (place s v) (slot s.heap (end_of m s r) f)
          (λ j q. x.heap.leads (end_of m s r) f j (end_below m n s x r) u q) (end_below m n s x r) u (x.places v)
      read_keeps ks (PushCell r) u e = reads_on s (stays m n s x) refl
      read_keeps ks (SetSort r j) u e = reads_on s (stays m n s x) refl
      read_keeps ks (SetFeature r f v) u e = reads_on s (stays m n s x) refl
      read_keeps ks (WriteTest depth label) u e = reads_on s (stays m n s x) refl

    module _ (d : ℕ) (room : Room reads writes n (Write d) at s.heap.used) (onward : Onward reads 0 writes) where
      tests_back : (e label : ℕ) → slice_get writes at ≡ Some (WriteTest e label) → (b : Bool)
          → StepsTo s (cond b (record { state = s; mode = Read; at = label }) (on (writing d) s))
      tests_back e label is true = record { state = stays m n s x; room = write_read reads writes n at s.heap.used d room e label is onward }
      tests_back e label is false = record { state = stays m n s x; room = write_on reads writes n at s.heap.used d room (WriteTest e label) s.heap.used is (omega arith) }

      write_keeps : (ks : List K) (i : Instruction) → Uses s.heap.features i → slice_get writes at ≡ Some i → StepKeeps s (step_in m ks (Write d) i (writing d))
      write_keeps ks (WriteTest e label) u is = tests_back e label is (nat_le e d)
      write_keeps ks (PushCell r) u is =
          record {
            state = one_pushed m n s x r (may_push reads writes n at s.heap.used d room r is);
            room = write_on reads writes n at s.heap.used d room (PushCell r) (suc s.heap.used) is (omega arith);
          }
      write_keeps ks (SetSort r j) u is =
          record { state = kind_set m n s x (place s r) (get_or ks j m.widest) (x.places r); room = write_on reads writes n at s.heap.used d room (SetSort r j) s.heap.used is (omega arith) }
      write_keeps ks (SetFeature r f v) u is =
          record {
            state = filled m n s x (end_of m s r) f (place s v) (end_below m n s x r) u (x.places v);
            room = write_on reads writes n at s.heap.used d room (SetFeature r f v) s.heap.used is (omega arith);
          }
      write_keeps ks (IntersectSort r k) u is = record { state = stays m n s x; room = write_on reads writes n at s.heap.used d room (IntersectSort r k) s.heap.used is (omega arith) }
      write_keeps ks (TestFeature r f v e label) u is =
          record { state = stays m n s x; room = write_on reads writes n at s.heap.used d room (TestFeature r f v e label) s.heap.used is (omega arith) }
      write_keeps ks (UnifyFeature r f v) u is = record { state = stays m n s x; room = write_on reads writes n at s.heap.used d room (UnifyFeature r f v) s.heap.used is (omega arith) }

  mode_keeps : (ks : List K) (s : State K) (mode : Mode) (at : ℕ) (i : Instruction) → RunsWithin m n reads writes (record { state = s; mode = mode; at = at })
      → present_in reads writes mode at ≡ Some i → StepKeeps s (step_in m ks mode i (record { state = s; mode = mode; at = at }))
  mode_keeps ks s Read at i x e = read_keeps s x.state at x.room ks i (present_uses reads writes s.heap.features x.codes Read at i e) e
  mode_keeps ks s (Write d) at i x e = write_keeps s x.state at d x.room x.codes.onward ks i (present_uses reads writes s.heap.features x.codes (Write d) at i e) e

  module _ (ks : List K) (s : State K) (mode : Mode) (at : ℕ) (x : RunsWithin m n reads writes (record { state = s; mode = mode; at = at }))
      (cells : List (Cell K)) (slots : List (Option ℕ)) (before : Beyond n s.heap.features cells slots s.heap.cells s.heap.slots) where
    pub step_keeps : (i : Instruction) (v : Machine K) → present_in reads writes mode at ≡ Some i → step m ks i (record { state = s; mode = mode; at = at }) ≡ Some v
        → RunsWithin m n reads writes v × Beyond n s.heap.features cells slots v.state.heap.cells v.state.heap.slots
    step_keeps i v here e =
        let y = subst (StepKeeps s) e (mode_keeps ks s mode at i x here) in (
          record { room = y.room; codes = subst (Codes reads writes) (sym y.state.features) x.codes; state = y.state.state },
          (y.state.beyond.0 ∙ before.0, y.state.beyond.1 ∙ before.1),
        )
