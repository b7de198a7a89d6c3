-- The code of an entry performs its statements, which never clash: all its cells are pushed by it.
use Rattle.std.proofs.Common.{◌≡◌, ℕ, List, [], ◌∷◌, ◌++◌, Ok, sym, refl, ap, ◌∙◌, arith}
use Rattle.orders.specs.Meaning.{Meaning}
use Rattle.grammar.specs.declared.statement.Statement.{Statement}
use Rattle.grammar.specs.Lawful.{Open, after}
use Rattle.performing.specs.Performing.{State, perform_from}
use Rattle.performing.specs.Following.{StepLaw}
use Rattle.instructions.specs.declared.instruction.Instruction.{Instruction}
use Rattle.instructions.specs.Codes.{Compiling, told, next, entry_from}
use Rattle.instructions.specs.Steps.{write, entered}
use Rattle.instructions.proofs.Stretches.{Stretch}
use Rattle.instructions.proofs.Telling.{Tells, tells}
use Rattle.instructions.proofs.Standing.{performs_on, performs_none, Stands, stands_may, stands_room, stands_next}

entered_append : {K : Type 0} (m : Meaning K) (ks : List K) (is js : List Instruction) (s : State K) →
    entered m ks (is ++ js) s ≡ entered m ks js (entered m ks is s)
unfolding entered
entered_append m ks [] js s = refl
entered_append m ks (i ∷ is) js s = entered_append m ks is js (write m ks i s)

module _ {K : Type 0} (m : Meaning K) (law : StepLaw m ℕ) (ks : List K) (reads writes : List Instruction) (n base : ℕ) where
  pub enters : (ts : List (Statement K)) (o : Open) (c : Compiling) (s : State K) → Stands m law ks reads writes n o c s ts → Stretch m n 0 base o s
      → perform_from m c.statements ts s ≡ Ok (entered m ks (entry_from c ts) s)
  unfolding entry_from entered
  enters [] o c s h a = performs_none m c.statements s
  enters (t ∷ ts) o c s h a =
      let may = stands_may m law ks reads writes n o c s t ts h in
      let p : Tells m ks n 0 base o c s t =
      tells m ks n 0 base o c s h.ready h.agrees a (omega arith) t ts may (stands_room m law ks reads writes n o c s t ts h) (omega arith) h.left.kinds_left in
      performs_on m c.statements t ts s p.becomes p.performed
      ∙ enters ts (after t o) (next c t) p.becomes (stands_next m law ks reads writes n o c s t ts h p.becomes p.performed) p.stretch
      ∙ ap (λ u. Ok (entered m ks (entry_from (next c t) ts) u)) (sym p.written)
      ∙ ap Ok (sym (entered_append m ks (told c t) (entry_from (next c t) ts) s))
