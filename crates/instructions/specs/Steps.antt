-- What each instruction does, and running the codes of a term.
--
-- A term's registers are the cells of its variables, in the order of their first places; `ks` are its kinds. The rule's read code is run
-- until a test finds an empty slot; then its write code, until the description of that test's value ends; then the read code again, at the
-- statement that comes next. Reading stops at a clash; writing has none.
use Rattle.std.specs.Prelude.{ℕ, suc, zero, cond, List, [], ◌∷◌, ◌++◌, length, get_or, set, Some, None, Ok, Err, Option, Result, ◌==◌, nat_le, slice_get, slice_index, option_map}
use Rattle.orders.specs.Meaning.{Meaning}
use Rattle.joining.specs.Heap.{kind, slot, push, set_kind, fill}
use Rattle.performing.specs.Performing.{State, with_heap, end_of, narrowed, tied}
use Rattle.instructions.specs.declared.instruction.Instruction.{Instruction}
use Rattle.instructions.specs.declared.instruction.Instruction.TheVariants.{PushCell, SetSort, SetFeature, IntersectSort, TestFeature, UnifyFeature, WriteTest}
use Rattle.instructions.specs.declared.instruction.Mode.{Mode}
use Rattle.instructions.specs.declared.instruction.Mode.TheVariants.{Read, Write}

-- cells and registers; the mode; where the present instruction stands in the code of the mode
pub record Machine (K : Type 0) : Type 0 where
  pub state : State K
  pub mode : Mode
  pub at : ℕ

-- a register is set; the next one comes to those that are there
abbrev pub set_place : ℕ → ℕ → List ℕ → List ℕ
set_place r c ps = cond (r == length ps) (ps ++ c ∷ []) (set ps r c)

abbrev pub place : {K : Type 0} → State K → ℕ → ℕ
place s r = slice_index s.places r

-- to the next instruction of the same code
abbrev pub on : {K : Type 0} → Machine K → State K → Machine K
on t s = record { state = s; mode = t.mode; at = suc t.at }

-- what a test finds in the slot is the value; where it finds nothing, writing begins
abbrev pub tested : {K : Type 0} → ℕ → ℕ → ℕ → Option ℕ → Machine K → Machine K
tested v d label (Some j) t = on t (record { heap = t.state.heap; places = set_place v j t.state.places })
tested v d label None t = record { state = t.state; mode = Write d; at = label }

-- the present instruction; none at the end of a code
abbrev pub present_in : List Instruction → List Instruction → Mode → ℕ → Option Instruction
present_in reads writes Read i = slice_get reads i
present_in reads writes (Write d) i = slice_get writes i

module _ {K : Type 0} (m : Meaning K) (ks : List K) where
  abbrev kind_numbered : ℕ → K
  kind_numbered j = get_or ks j m.widest

  -- push_cell takes the next cell; set_sort gives the register's cell the kind; set_feature fills the slot at the end of the register with
  -- the cell of the value. The other instructions write nothing.
  abbrev pub write : Instruction → State K → State K
  write (PushCell r) s = record { heap = push m.widest s.heap; places = set_place r s.heap.used s.places }
  write (SetSort r j) s = with_heap s (set_kind m.widest s.heap (place s r) (kind_numbered j))
  write (SetFeature r f v) s = with_heap s (fill s.heap (end_of m s r) f (place s v))
  write i s = s

  -- One instruction in one mode; none is a clash. intersect_sort narrows the end of the register to the kind; test_feature makes the value
  -- what it finds in the slot at the end of the register; unify_feature joins what it finds there with the cell of the value, or fills the
  -- slot with it; write_test goes back to reading where writing began at its depth or deeper. An instruction of the other code is passed.
  abbrev pub step_in : Mode → Instruction → Machine K → Option (Machine K)
  step_in Read (IntersectSort r j) t =
      let e = end_of m t.state r in
      option_map (on t) (narrowed m e (m.common (kind m.widest t.state.heap e) (kind_numbered j)) t.state)
  step_in Read (TestFeature r f v d label) t = Some (tested v d label (slot t.state.heap (end_of m t.state r) f) t)
  step_in Read (UnifyFeature r f v) t =
      let e = end_of m t.state r in
      option_map (on t) (tied m e f (place t.state v) (slot t.state.heap e f) t.state)
  step_in Read i t = Some (on t t.state)
  step_in (Write d) (WriteTest e label) t = Some (cond (nat_le e d) (record { state = t.state; mode = Read; at = label }) (on t t.state))
  step_in (Write d) i t = Some (on t (write i t.state))

  abbrev pub step : Instruction → Machine K → Option (Machine K)
  step i t = step_in t.mode i t

  -- an entry's code, instruction by instruction
  unfoldable pub entered : List Instruction → State K → State K
  entered [] s = s
  entered (i ∷ is) s = entered is (write i s)

  -- a rule's codes, n turns at most; or the number of the reading instruction that clashes, from 1
  unfoldable pub run : List Instruction → List Instruction → ℕ → Machine K → Result (State K) ℕ
  run reads writes zero t = Ok t.state
  run reads writes (suc n) t =
      elim (present_in reads writes t.mode t.at) [
        | Some i ↦ elim (step i t) [ Some u ↦ run reads writes n u | None ↦ Err (suc t.at) ]
        | None ↦ Ok t.state
      ]
