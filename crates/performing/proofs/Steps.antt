-- What comes of performing one statement, and a list of them.
use Rattle.std.proofs.Common.{List, arith, inl, inr, length, refl, suc, ℕ, ◌+◌, ◌<◌, ◌==◌, ◌≡◌, ◌≤◌}
use Rattle.std.proofs.lemmas.Bool.{cases_Bool, cond-true, eqb-false, eqb-true}
use Rattle.orders.specs.Meaning.{Meaning}
use Rattle.grammar.specs.declared.statement.Statement.{Statement}
use Rattle.grammar.specs.declared.statement.Statement.TheVariants.{Feature, Kind}
use Rattle.performing.specs.Following.{AllFit, Fits, InOrder, Step, StepLaw, met_after, met_by}
use Rattle.performing.specs.Performing.{State, perform, perform_from}
use Rattle.performing.proofs.Lists.{AllPerformed, performs}
use Rattle.performing.proofs.Meeting.{meeting}
use Rattle.performing.proofs.Narrowing.{narrowing}
use Rattle.performing.proofs.Tying.{tying}

module _ {K : Type 0} (m : Meaning K) (T : Type 0) where
  feature_step : (s : State K) (x f y : ℕ) → InOrder m s → Fits {K = K} s.heap.features (length s.places) (Feature x f y)
      → s.heap.used + met_after {K = K} (length s.places) (Feature x f y) ≤ length s.heap.cells + length s.places → Step m T (Feature x f y) s (perform m (Feature x f y) s)
  unfolding perform
  feature_step s x f y o fits room =
      elim (cases_Bool (y == length s.places)) [
        | inl t ↦
            let new : y ≡ length s.places = eqb-true y (length s.places) t in
            let left : s.heap.used < length s.heap.cells = omega (arith, cond-true (y == length s.places) (suc (length s.places)) (length s.places) t) in
            rw (t, new) (meeting m T s o x f fits.0 fits.1 left _ refl)
        | inr n ↦ rw n (tying m T s o x f y fits.0 fits.1 (omega (arith, eqb-false y (length s.places) n)) _ refl)
      ]

  -- one statement
  pub step_law : StepLaw m T
  step_law (Kind x k) s o fits room = narrowing m T s o x k fits
  step_law (Feature x f y) s o fits room = feature_step s x f y o fits room

  -- a list of statements where n came before
  pub all_performed : (n : ℕ) (ts : List (Statement K)) (s : State K) → InOrder m s → AllFit s.heap.features (length s.places) ts
      → s.heap.used + met_by (length s.places) ts ≤ length s.heap.cells + length s.places → AllPerformed m T n ts s (perform_from m n ts s)
  all_performed = performs m T step_law
