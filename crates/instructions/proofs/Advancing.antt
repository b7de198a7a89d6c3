-- Reading goes on instruction by instruction, and writing begins where a slot is empty.
use Rattle.std.proofs.Common.{◌≡◌, ℕ, suc, ◌+◌, List, length, get_or, Some, None, Option, sym, ap, ◌∙◌, ◌≢◌}
use Rattle.std.specs.Prelude.{option_map}
use Rattle.std.proofs.lemmas.Bool.{cond-true, cond-false, eq-eqb, ne_eqb}
use Rattle.orders.specs.Meaning.{Meaning}
use Rattle.grammar.specs.declared.statement.Statement.{Statement}
use Rattle.grammar.specs.declared.statement.Statement.TheVariants.{Kind, Feature}
use Rattle.joining.specs.Heap.{kind, slot}
use Rattle.performing.specs.Performing.{State, end_of, narrowed, met, perform}
use Rattle.instructions.specs.declared.instruction.Instruction.{Instruction}
use Rattle.instructions.specs.declared.instruction.Instruction.TheVariants.{TestFeature, UnifyFeature}
use Rattle.instructions.specs.Codes.{Compiling, depth_of, ends_before, read}
use Rattle.instructions.specs.Steps.{Machine, tested, on, step}
use Rattle.instructions.proofs.Running.{reading, writing}

module _ {K : Type 0} (m : Meaning K) (ks : List K) (c : Compiling) (s : State K) where
  abbrev here : Machine K
  here = reading s c.statements

  -- the reading instruction of a statement does what performing it does
  abbrev pub DoesSo : Statement K → Type 0
  DoesSo t = step m ks (read c t) here ≡ option_map (on here) (perform m t s)

  pub kind_so : (x : ℕ) (k : K) → get_or ks c.kinds m.widest ≡ k → DoesSo (Kind x k)
  unfolding perform
  kind_so x k e = ap (λ k. option_map (on here) (narrowed m (end_of m s x) (m.common (kind m.widest s.heap (end_of m s x)) k) s)) e

  module _ (x f y : ℕ) where
    abbrev found : Option ℕ
    found = slot s.heap (end_of m s x) f

    pub old_so : y ≢ length c.depths → length c.depths ≡ length s.places → DoesSo (Feature x f y)
    unfolding perform
    old_so old e =
        ap (λ i. step m ks i here) (cond-false _ _ (UnifyFeature x f y) (ne_eqb y (length c.depths) old))
        ∙ sym (ap (option_map (on here)) (cond-false _ (Some (met m (end_of m s x) f found s)) _ (ne_eqb y (length s.places) (λ q. old (q ∙ sym e)))))

    module _ (new : y ≡ length c.depths) (e : length c.depths ≡ length s.places) where
      abbrev test : Instruction
      test = TestFeature x f y (suc (depth_of c x)) (c.written + length (ends_before c x))

      tests : step m ks (read {K = K} c (Feature x f y)) here ≡ step m ks test here
      tests = ap (λ i. step m ks i here) (cond-true _ test (UnifyFeature x f y) (eq-eqb y (length c.depths) new))

      met_here : perform m (Feature x f y) s ≡ Some (met m (end_of m s x) f found s)
      unfolding perform
      met_here = cond-true _ _ _ (eq-eqb y (length s.places) (new ∙ e))

      pub found_so : (j : ℕ) → found ≡ Some j → DoesSo (Feature x f y)
      unfolding met
      found_so j q =
          tests ∙ ap (λ o. Some (tested y (suc (depth_of c x)) (c.written + length (ends_before c x)) o here)) q
          ∙ ap (λ ps. Some (on here (record { heap = s.heap; places = ps }))) (cond-true _ _ _ (eq-eqb y (length s.places) (new ∙ e)))
          ∙ sym (ap (option_map (on here)) met_here ∙ ap (λ o. option_map (on here) (Some (met m (end_of m s x) f o s))) q)

      pub empty_so : found ≡ None → step m ks (read {K = K} c (Feature x f y)) here ≡
          Some (writing (suc (depth_of c x)) s (c.written + length (ends_before c x)))
      empty_so q = tests ∙ ap (λ o. Some (tested y (suc (depth_of c x)) (c.written + length (ends_before c x)) o here)) q
