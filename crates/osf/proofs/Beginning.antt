-- How a term begins on a case: a rule at a cell, an entry with a new cell.
use Rattle.std.proofs.Common.{◌≡◌, ℕ, zero, suc, ◌+◌, ◌<◌, List, [], ◌∷◌, length, slice_index, refl, sym, ap, ◌∙◌, arith}
use Rattle.orders.specs.Meaning.{Meaning}
use Rattle.joining.specs.Heap.{end, push}
use Rattle.joining.proofs.Pushed.{good_push}
use Rattle.joining.proofs.Extending.{extends_push}
use Rattle.joining.proofs.Sounding.{with_thing, with_thing_new, with_thing_old, sound_push}
use Rattle.performing.specs.Performing.{State}
use Rattle.osf.specs.Facts.{Fact, one}
use Rattle.osf.specs.Runs.{Case}
use Rattle.osf.proofs.Standing.{Stands}
use Rattle.osf.proofs.Told.{Begins, told, old_cell, its_cell}
use Rattle.osf.proofs.Telling.{BeginsSound}

-- the state in which a rule begins at the cell i, and what it says at first: its root is the cell's variable
abbrev pub at_cell : {K : Type 0} → Case K → ℕ → State K
at_cell c i = record { heap = c.heap; places = i ∷ [] }

abbrev pub root_fact : {K : Type 0} → Case K → ℕ → List (Fact K)
root_fact c i = one c.history.variables (c.history.variable_of i) ∷ []

-- the state in which an entry begins
abbrev pub at_new : {K : Type 0} → K → Case K → State K
at_new top c = record { heap = push top c.heap; places = c.heap.used ∷ [] }

only_place : (i p x : ℕ) → i < p → x < length (i ∷ []) → slice_index (i ∷ []) x < p
only_place i p zero l b = l
only_place i p (suc x) l b = absurd (omega (arith, b))

module _ {K : Type 0} (m : Meaning K) (c : Case K) (k : Stands m c) where
  pub rule_begins : (i : ℕ) → i < c.heap.used → Begins m c (root_fact c i) (at_cell c i)
  rule_begins i l =
      record {
        in_order = record { good = k.good; placed = λ x b. only_place i c.heap.used x l b };
        used = omega arith;
        features = refl;
        extends = record { ends = λ x y a b q. q; kinds = λ x a. m.itself _; leads = λ x f j a b q. (j, q, refl) };
        root = refl;
        pushed = λ j a b. absurd (omega (arith, a, b));
        among = ((omega arith, omega (arith, k.known i l)), tt);
        true_of = λ ts w f.
            let e : c.history.variables + 0 ≡ c.history.variables = omega arith in
            let root = ap (told c (root_fact c i) ts w).history.cell_of (sym e) ∙ its_cell c (root_fact c i) ts w 0 ∙ f.places 0 (omega arith) in
            let other = old_cell c (root_fact c i) ts w (c.history.variable_of i) (k.known i l) ∙ k.own i l in
            (ap (end m.widest w.heap) (root ∙ sym other), tt);
      }

  pub rule_sound : (T : Type 0) (i : ℕ) → i < c.heap.used → BeginsSound m T c (root_fact c i) (at_cell c i)
  rule_sound T i l r thing s q =
      ((λ j. thing (c.history.variable_of j)), λ j b. refl, record { sound = s; values = λ x b. values x b }) where
        values : (x : ℕ) → x < length (i ∷ []) → thing (c.history.variable_of (slice_index (i ∷ []) x)) ≡ thing (c.history.variables + x)
        values zero b =
            let e : c.history.variables ≡ c.history.variables + 0 = omega arith in sym q.0 ∙ ap thing e
        values (suc x) b = absurd (omega (arith, b))

  pub entry_begins : c.heap.used < length c.heap.cells → Begins m c [] (at_new m.widest c)
  entry_begins room =
      record {
        in_order = record { good = good_push m.widest c.heap k.good room; placed = λ x b. only_place c.heap.used (suc c.heap.used) x (omega arith) b };
        used = omega arith;
        features = refl;
        extends = extends_push m c.heap k.good room;
        root = refl;
        pushed = λ j a b. let e : c.heap.used ≡ j = omega (arith, a, b) in e;
        among = tt;
        true_of = λ ts w f. tt;
      }

  pub entry_sound : (T : Type 0) → c.heap.used < length c.heap.cells → BeginsSound m T c [] (at_new m.widest c)
  entry_sound T room r thing s q =
      (cell, agrees, record { sound = sound_push m r (λ j. thing (c.history.variable_of j)) c.heap k.good s room cell agrees; values = values }) where
        cell : ℕ → T
        cell = with_thing (λ j. thing (c.history.variable_of j)) c.heap.used (thing (c.history.variables + 0))

        agrees : (j : ℕ) → j < c.heap.used → cell j ≡ thing (c.history.variable_of j)
        agrees j b = with_thing_old (λ j. thing (c.history.variable_of j)) c.heap.used (thing (c.history.variables + 0)) j b

        values : (x : ℕ) → x < length (c.heap.used ∷ []) → cell (slice_index (c.heap.used ∷ []) x) ≡ thing (c.history.variables + x)
        values zero b = with_thing_new (λ j. thing (c.history.variable_of j)) c.heap.used (thing (c.history.variables + 0))
        values (suc x) b = absurd (omega (arith, b))
