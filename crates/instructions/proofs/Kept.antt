-- Performing a statement that may come leaves all ready for the next.
use Rattle.std.proofs.Common.{◌≡◌, ℕ, ◌+◌, ◌≤◌, true, [], ◌∷◌, length, Some, sym, refl, ap, ◌∙◌, arith, subst}
use Rattle.orders.specs.Meaning.{Meaning}
use Rattle.grammar.specs.declared.statement.Statement.{Statement}
use Rattle.grammar.specs.declared.statement.Statement.TheVariants.{Kind, Feature}
use Rattle.grammar.specs.Lawful.{Open, may_come, after}
use Rattle.performing.specs.Performing.{State, perform}
use Rattle.performing.specs.Following.{StepLaw, Step, Fits, Performed, met_after, met_by}
use Rattle.instructions.specs.Codes.{Compiling}
use Rattle.instructions.proofs.Agreeing.{Agrees, value_met, feature_known}
use Rattle.instructions.proofs.Stretches.{Ready}
use Rattle.instructions.proofs.Telling.{Room, subject_met}

-- as many variables are met after a statement as there are cells for
pub after_met : {K : Type 0} (t : Statement K) (o : Open) → (after t o).count ≡ met_after o.count t
after_met (Kind x k) o = refl
after_met (Feature x f y) o = refl

module _ {K : Type 0} (m : Meaning K) (law : StepLaw m ℕ) (n : ℕ) (o : Open) (c : Compiling) (s : State K) (r : Ready m n o s) (g : Agrees o c) where
  pub record Kept (t : Statement K) (u : State K) : Type 0 where
    pub ready : Ready m n (after t o) u
    pub used : u.heap.used + o.count ≤ s.heap.used + (after t o).count
    pub cells : length u.heap.cells ≡ length s.heap.cells

  fits : (t : Statement K) → may_come n t o ≡ true → Fits s.heap.features (length s.places) t
  fits (Kind x k) may = rw r.met (subject_met n (Kind x k) o c g may)
  fits (Feature x f y) may =
      let features = r.features in
      let known = feature_known n x f y o K may in
      (rw r.met (subject_met {K = K} n (Feature x f y) o c g may), omega arith, rw r.met (value_met n x f y o K may))

  kept_by : (t : Statement K) (u : State K) → Performed m ℕ (t ∷ []) s u → Kept t u
  unfolding met_by
  kept_by t u p =
      let f = p.follows in
      let count : length u.places ≡ (after t o).count = p.count ∙ ap (λ n. met_after n t) r.met ∙ sym (after_met t o) in
      record {
        ready = record { in_order = f.in_order; met = count; features = omega (arith, f.features, r.features) };
        used = omega (arith, f.room, count, r.met);
        cells = f.cells;
      }

  pub kept : (t : Statement K) (u : State K) → may_come n t o ≡ true → Room o s t → perform m t s ≡ Some u → Kept t u
  kept t u may room e =
      let met = r.met in
      let count : (after t o).count ≡ met_after (length s.places) t = after_met t o ∙ ap (λ n. met_after n t) (sym met) in
      kept_by t u (subst (Step m ℕ t s) e (law t s r.in_order (fits t may) (omega (arith, room))))
