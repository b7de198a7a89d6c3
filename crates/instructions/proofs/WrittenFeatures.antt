-- Setting a feature of a variable where its slot is empty is following the feature.
use Rattle.std.proofs.Common.{◌≡◌, ℕ, ◌<◌, true, eqb, List, [], ◌∷◌, ◌++◌, length, Some, None, sym, ap, ◌∙◌, arith, ◌≢◌}
use Rattle.std.specs.Prelude.{slice_index}
use Rattle.std.proofs.lemmas.Bool.{cond-true, cond-false, eq-eqb, ne_eqb}
use Rattle.std.proofs.lemmas.List.{get_or_append_left, get_or_push}
use Rattle.orders.specs.Meaning.{Meaning}
use Rattle.grammar.specs.declared.statement.Statement.TheVariants.{Feature}
use Rattle.grammar.specs.Lawful.{Open}
use Rattle.joining.specs.Heap.{slot, end, push, fill}
use Rattle.performing.specs.Performing.{State, with_heap, end_of, met, tied, perform}
use Rattle.instructions.specs.declared.instruction.Instruction.TheVariants.{PushCell, SetFeature}
use Rattle.instructions.specs.Steps.{place, write}
use Rattle.joining.proofs.Pushed.{push_end}
use Rattle.instructions.proofs.Stretches.{Ready}

-- a new cell, or that of a variable that was met before, comes to be in the slot f of the end of x
module _ {K : Type 0} (m : Meaning K) (s : State K) (x f : ℕ) where
  abbrev pub new_set : State K
  new_set = record { heap = fill (push m.widest s.heap) (end_of m s x) f s.heap.used; places = s.places ++ s.heap.used ∷ [] }

  abbrev pub old_set : ℕ → State K
  old_set y = with_heap s (fill s.heap (end_of m s x) f (place s y))

module _ {K : Type 0} (m : Meaning K) (ks : List K) (n : ℕ) (o : Open) (s : State K) (r : Ready m n o s)
    (x f y : ℕ) (known : f < n) (u : x < o.count) (empty : slot s.heap (end_of m s x) f ≡ None) where
  abbrev there : ℕ
  there = end_of m s x

  -- the value is a new cell
  module _ (new : y ≡ o.count) (room : s.heap.used < length s.heap.cells) where
    new_test : eqb y (length s.places) ≡ true
    new_test = eq-eqb y (length s.places) (new ∙ sym r.met)

    pub new_performed : perform m (Feature x f y) s ≡ Some (new_set m s x f)
    unfolding perform met
    new_performed = cond-true _ _ _ new_test ∙ ap (λ c. Some (met m there f c s)) empty

    pub new_written : write m ks (SetFeature x f y) (write m ks (PushCell y) s) ≡ new_set m s x f
    new_written =
        let room : s.heap.used < length s.heap.cells = room in
        let met = r.met in
        let places = s.places ++ s.heap.used ∷ [] in
        let pushed = push m.widest s.heap in
        let filled : ℕ → ℕ → State K = λ (e c : ℕ). record { heap = fill pushed e f c; places = places } in
        ap (λ ps. write m ks (SetFeature x f y) (record { heap = pushed; places = ps })) (cond-true _ _ _ new_test)
        ∙ ap (λ c. filled (end m.widest pushed c) (slice_index places y)) (get_or_append_left s.places (s.heap.used ∷ []) 0 x (omega arith))
        ∙ ap (λ e. filled e (slice_index places y)) (push_end m.widest s.heap r.in_order.good room (place s x))
        ∙ ap (filled there) (get_or_push s.places s.heap.used 0 y (met ∙ sym new))

  -- the value was met before
  module _ (old : y ≢ o.count) where
    pub old_performed : perform m (Feature x f y) s ≡ Some (old_set m s x f y)
    unfolding perform tied
    old_performed =
        cond-false _ _ _ (ne_eqb y (length s.places) (λ e. old (e ∙ r.met))) ∙ ap (λ c. tied m there f (place s y) c s) empty
