-- Where the codes stand before the statements that are still to come.
use Rattle.std.proofs.Common.{◌≡◌, ℕ, suc, ◌+◌, ◌<◌, ◌≤◌, true, List, [], ◌∷◌, length, Some, None, Ok, Err, sym, refl, ap, arith}
use Rattle.std.proofs.lemmas.Bool.{and_parts}
use Rattle.orders.specs.Meaning.{Meaning}
use Rattle.declarations.specs.Declarations.{among}
use Rattle.grammar.specs.declared.statement.Statement.{Statement}
use Rattle.grammar.specs.Lawful.{Open, may_come, after, lawful_from}
use Rattle.performing.specs.Performing.{State, perform, perform_from}
use Rattle.performing.specs.Following.{StepLaw, met_by}
use Rattle.performing.proofs.Variables.{met_most}
use Rattle.instructions.specs.declared.instruction.Instruction.{Instruction}
use Rattle.instructions.specs.Codes.{Compiling, depth_of, next, read_from, write_from}
use Rattle.instructions.specs.Steps.{run}
use Rattle.instructions.proofs.Agreeing.{Agrees, agrees_next}
use Rattle.instructions.proofs.Stretches.{Ready, Stretch}
use Rattle.instructions.proofs.Telling.{Room}
use Rattle.instructions.proofs.Left.{Left, left_next, rest}
use Rattle.instructions.proofs.Kept.{after_met, kept}
use Rattle.instructions.proofs.Running.{reading, writing}

module _ {K : Type 0} (m : Meaning K) where
  pub performs_on : (i : ℕ) (t : Statement K) (ts : List (Statement K)) (s u : State K) → perform m t s ≡ Some u →
      perform_from m i (t ∷ ts) s ≡ perform_from m (suc i) ts u
  unfolding perform_from
  performs_on i t ts s u e = rw (perform_from, e)

  pub performs_clash : (i : ℕ) (t : Statement K) (ts : List (Statement K)) (s : State K) → perform m t s ≡ None → perform_from m i (t ∷ ts) s ≡ Err (suc i)
  unfolding perform_from
  performs_clash i t ts s e = rw (perform_from, e)

  pub performs_none : (i : ℕ) (s : State K) → perform_from m i [] s ≡ Ok s
  unfolding perform_from
  performs_none i s = refl

-- where reading goes on, or writing, the codes perform what is to come, given turns for what is left of them
module _ {K : Type 0} (m : Meaning K) (ks : List K) (reads writes : List Instruction) where
  abbrev pub ReadsHere : Compiling → State K → List (Statement K) → Type 0
  ReadsHere c s ts =
      (turns : ℕ) → length (read_from c ts) + length (rest c ts) ≤ turns
      → run m ks reads writes turns (reading s c.statements) ≡ perform_from m c.statements ts s

  abbrev pub WritesHere : ℕ → Compiling → State K → List (Statement K) → Type 0
  WritesHere depth c s ts =
      (turns : ℕ) → length (read_from c ts) + length (write_from c ts) ≤ turns
      → run m ks reads writes turns (writing depth s c.written) ≡ perform_from m c.statements ts s

module _ {K : Type 0} (m : Meaning K) (law : StepLaw m ℕ) (ks : List K) (reads writes : List Instruction) (n : ℕ) where
  -- the statements ts are lawful here, are what is left of the codes, and have room
  pub record Stands (o : Open) (c : Compiling) (s : State K) (ts : List (Statement K)) : Type 0 where
    pub ready : Ready m n o s
    pub agrees : Agrees o c
    pub lawful : lawful_from n o ts ≡ true
    pub left : Left ks reads writes ts c
    pub room : s.heap.used + met_by o.count ts ≤ length s.heap.cells + o.count

  module _ (o : Open) (c : Compiling) (s : State K) (t : Statement K) (ts : List (Statement K)) (h : Stands o c s (t ∷ ts)) where
    unfolds : (may_come n t o ≡ true) × (lawful_from n (after t o) ts ≡ true)
    unfolding lawful_from
    unfolds = and_parts (may_come n t o) (lawful_from n (after t o) ts) h.lawful

    pub stands_may : may_come n t o ≡ true
    stands_may = unfolds.0

    counted : met_by o.count (t ∷ ts) ≡ met_by (after t o).count ts
    unfolding met_by
    counted = ap (λ p. met_by p ts) (sym (after_met t o))

    pub stands_room : Room o s t
    stands_room = omega (arith, h.room, counted, met_most (after t o).count ts)

    pub stands_next : (u : State K) → perform m t s ≡ Some u → Stands (after t o) (next c t) u ts
    stands_next u e =
        let k = kept m law n o c s h.ready h.agrees t u stands_may stands_room e in
        record {
          ready = k.ready;
          agrees = agrees_next n o c h.agrees t stands_may;
          lawful = unfolds.1;
          left = left_next ks reads writes t ts c h.left;
          room = omega (arith, h.room, counted, k.used, k.cells);
        }

  -- writing what is under a variable v: the description is open, and v is as deep as the mode says
  pub record Under (v depth base : ℕ) (o : Open) (c : Compiling) (s : State K) : Type 0 where
    pub stretch : Stretch m n v base o s
    pub open_path : among v o.path ≡ true
    pub deep : depth_of c v ≡ depth
    pub later : 0 < v
    pub deeper : 0 < depth

  abbrev pub Reads : List (Statement K) → Type 0
  Reads ts = (o : Open) (c : Compiling) (s : State K) → Stands o c s ts → ReadsHere m ks reads writes c s ts

  abbrev pub Writes : List (Statement K) → Type 0
  Writes ts =
      (o : Open) (c : Compiling) (s : State K) → Stands o c s ts → (v depth base : ℕ) → Under v depth base o c s
      → WritesHere m ks reads writes depth c s ts
