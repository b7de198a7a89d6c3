-- The calls by their cases: refused with all as it was, or let through.
use Rattle.std.proofs.Common.{◌≡◌, ℕ, ◌+◌, ◌-◌, ◌<◌, ◌≤◌, Bool, true, false, cond, not, ◌||◌, List, [], length, Ok, Err, Result, nat_lt, nat_le, refl, arith, ltb-false, leb-false}
use Rattle.std.proofs.lemmas.Bool.{not-false, or_parts}
use Rattle.refusals.specs.declared.Refusal.{Refusal}
use Rattle.refusals.specs.declared.Refusal.TheVariants.{Memory, Cell, Feature, Full}
use Rattle.orders.specs.Meaning.{Meaning}
use Rattle.grammar.specs.declared.statement.Statement.{Statement}
use Rattle.grammar.specs.Lawful.{lawful}
use Rattle.joining.specs.Heap.{Heap}
use Rattle.joining.specs.Joining.{join}
use Rattle.performing.specs.Following.{AllFit, met_by}
use Rattle.instructions.specs.Law.{most_turns, enter, match_at}
use Rattle.osf.specs.Calls.{Lent, Left, LetThrough, too_short, out_of_range, features_below, variables_of, refused, accepted, accepted_if, joined_if, enters, matches, joins}
use Rattle.osf.proofs.Fitting.{all_fit, all_met, lawful_over}

pub ok_err : {A E P : Type 0} {x : A} {e : E} → ◌≡◌ {A = Result A E} (Ok x) (Err e) → P
ok_err q = cc

by_test : {X : Type 0} (P : X → Type 0) (b : Bool) (x y : X) → (b ≡ true → P x) → (b ≡ false → P y) → P (cond b x y)
by_test P true x y p q = p refl
by_test P false x y p q = q refl

module _ {K : Type 0} (m : Meaning K) (l : Lent) (h : Heap K) (P : Left K → Type 0) where
  -- what is refused before it is let through leaves all as it was
  abbrev pub RefusedSo : List ℕ → Type 0
  RefusedSo places = (e : Refusal) → (LetThrough (Err e) → ⊥) → P (refused e h places)

  module _ (n : ℕ) (ss : List (Statement K)) (term : lawful n ss ≡ true) (places : List ℕ) (refusing : RefusedSo places) where
    pub enters_by : (lawful h.features ss ≡ true → AllFit h.features 1 ss → h.used + met_by 1 ss ≤ length h.cells → variables_of ss ≤ length places → P (accepted (enter m ss h) places))
        → P (enters m l ss places h)
    enters_by through =
        by_test P (too_short l h) _ _ (λ e. refusing Memory (λ x. x))
        (λ e. by_test P (out_of_range h ss places) _ _ (λ e. refusing Feature (λ x. x))
        (λ r. by_test P (nat_lt (length h.cells) (h.used + variables_of ss)) _ _ (λ e. refusing Full (λ x. x))
        (λ f.
        let (b, p) = or_parts (not (features_below h.features ss)) (nat_lt (length places) (variables_of ss)) r in
        through (lawful_over n h.features ss term (not-false _ b)) (all_fit n h.features ss term (not-false _ b)) (omega (arith, ltb-false _ _ f, all_met ss)) (omega (arith, ltb-false _ _ p)))))

    pub matches_by : (i : ℕ)
        → (i < h.used → lawful h.features ss ≡ true → AllFit h.features 1 ss → h.used + met_by 1 ss ≤ length h.cells + 1 → variables_of ss ≤ length places → P (accepted_if (match_at m ss (most_turns ss) h i) h places))
        → P (matches m l ss i places h)
    matches_by i through =
        by_test P (too_short l h) _ _ (λ e. refusing Memory (λ x. x))
        (λ e. by_test P (nat_le h.used i) _ _ (λ e. refusing Cell (λ x. x))
        (λ c. by_test P (out_of_range h ss places) _ _ (λ e. refusing Feature (λ x. x))
        (λ r. by_test P (nat_lt (length h.cells) (h.used + variables_of ss - 1)) _ _ (λ e. refusing Full (λ x. x))
        (λ f.
        let (b, p) = or_parts (not (features_below h.features ss)) (nat_lt (length places) (variables_of ss)) r in
        through (omega (arith, leb-false _ _ c)) (lawful_over n h.features ss term (not-false _ b)) (all_fit n h.features ss term (not-false _ b)) (omega (arith, ltb-false _ _ f, all_met ss)) (omega (arith, ltb-false _ _ p))))))

  pub joins_by : (i j : ℕ) → RefusedSo [] → (i < h.used → j < h.used → P (joined_if (join m i j h) h)) → P (joins m l i j h)
  joins_by i j refusing through =
      by_test P (too_short l h) _ _ (λ e. refusing Memory (λ x. x))
      (λ e. by_test P (nat_le h.used i || nat_le h.used j) _ _ (λ e. refusing Cell (λ x. x))
      (λ c. let (a, b) = or_parts (nat_le h.used i) (nat_le h.used j) c in through (omega (arith, leb-false _ _ a)) (omega (arith, leb-false _ _ b))))
