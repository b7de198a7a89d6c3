-- A stretch of writing: the variables that are met in it have cells of their own, of which nothing is told but what the statements said.
use Rattle.std.proofs.Common.{◌≡◌, ℕ, ◌+◌, ◌<◌, ◌≤◌, true, false, ◌&&◌, eqb, List, ◌∷◌, length, Some, None, Option, refl, ap, arith, ◌≢◌}
use Rattle.std.proofs.lemmas.Bool.{both_ways, eq-eqb, or_parts}
use Rattle.orders.specs.Meaning.{Meaning, IsCommon}
use Rattle.grammar.specs.Lawful.{Open, innermost, has}
use Rattle.joining.specs.Heap.{refers, kind, slot}
use Rattle.joining.proofs.Kept.{root_end}
use Rattle.performing.specs.Performing.{State, end_of}
use Rattle.performing.specs.Following.{InOrder}
use Rattle.instructions.specs.Steps.{place}

-- a state in order where the variables that are met, and no others, have cells; n features are declared
pub record Ready {K : Type 0} (m : Meaning K) (n : ℕ) (o : Open) (s : State K) : Type 0 where
  pub in_order : InOrder m s
  pub met : length s.places ≡ o.count
  pub features : n ≤ s.heap.features

-- the variables from v on have the cells from `base` on, in order, each its own end; where a feature is not told the slot is empty, and
-- the variable that was met just now has the widest kind
pub record Stretch {K : Type 0} (m : Meaning K) (n v base : ℕ) (o : Open) (s : State K) : Type 0 where
  pub used : s.heap.used + v ≡ base + o.count
  pub places : (x : ℕ) → v ≤ x → x < o.count → place s x + v ≡ base + x
  pub own : (i : ℕ) → base ≤ i → refers m.widest s.heap i ≡ i
  pub untold : (x f : ℕ) → v ≤ x → x < o.count → f < n → has x f o.features ≡ false → slot s.heap (place s x) f ≡ None
  pub widest : (x : ℕ) → v ≤ x → x < o.count → o.fresh ≡ true → innermost x o.path ≡ true → kind m.widest s.heap (place s x) ≡ m.widest

module _ {K : Type 0} (m : Meaning K) where
  -- the common kind of the widest kind and another is that other
  common_with : (k : K) (r : Option K) → IsCommon m.under m.widest k r → r ≡ Some k
  common_with k (Some c) h = ap Some (m.same c k h.1 (h.2 k (m.widest_is k) (m.itself k)))
  common_with k None h = absurd (h k (m.widest_is k) (m.itself k))

  pub common_widest : (k : K) → m.common m.widest k ≡ Some k
  common_widest k = common_with k (m.common m.widest k) (m.common_is m.widest k)

  -- before anything is written in it
  pub stretch_none : (n : ℕ) (o : Open) (s : State K) → Ready m n o s → Stretch m n o.count s.heap.used o s
  stretch_none n o s r =
      record {
        used = refl;
        places = λ x l u. absurd (omega arith);
        own = r.in_order.good.fresh_refers;
        untold = λ x f l u lf e. absurd (omega arith);
        widest = λ x l u e i. absurd (omega arith);
      }

  -- a variable of the stretch is at its own end
  pub stretch_end : (n v base : ℕ) (o : Open) (s : State K) → Stretch m n v base o s → (x : ℕ) → v ≤ x → x < o.count → end_of m s x ≡ place s x
  stretch_end n v base o s a x l u = root_end m.widest s.heap (place s x) (a.own (place s x) (omega (arith, a.places x l u)))

-- of a feature that is not told yet, nothing was told before either, and it is no other than the last
pub has_before : (z g x f : ℕ) (ps : List (ℕ × ℕ)) → has z g ((x, f) ∷ ps) ≡ false → has z g ps ≡ false
unfolding has
has_before z g x f ps h = (or_parts (eqb z x && eqb g f) (has z g ps) h).1

pub has_last : (z g x f : ℕ) (ps : List (ℕ × ℕ)) → has z g ((x, f) ∷ ps) ≡ false → z ≡ x → g ≢ f
unfolding has
has_last z g x f ps h p q = both_ways _ h (rw (eq-eqb z x p, eq-eqb g f q) refl)
