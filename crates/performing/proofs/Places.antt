-- What follows a state in order: its heap is extended, with the same variables or with one more.
use Rattle.std.proofs.Common.{List, [], arith, inl, inr, length, refl, slice_index, suc, sym, ℕ, ◌++◌, ◌<◌, ◌∙◌, ◌∷◌, ◌≡◌, ◌≤◌}
use Rattle.std.proofs.lemmas.Bool.{cases_eq}
use Rattle.std.proofs.lemmas.List.{get_or_append_left, get_or_push, length-append}
use Rattle.orders.specs.Meaning.{Meaning}
use Rattle.joining.specs.Good.{Good}
use Rattle.joining.specs.Heap.{Heap}
use Rattle.joining.specs.Law.{Extends}
use Rattle.performing.specs.Following.{Follows, InOrder}
use Rattle.performing.specs.Performing.{State, with_heap}

pub places_old : (ps : List ℕ) (j x : ℕ) → x < length ps → slice_index (ps ++ j ∷ []) x ≡ slice_index ps x
places_old ps j x l = get_or_append_left ps (j ∷ []) 0 x l

pub places_new : (ps : List ℕ) (j : ℕ) → slice_index (ps ++ j ∷ []) (length ps) ≡ j
places_new ps j = get_or_push ps j 0 (length ps) refl

pub one_more : (ps : List ℕ) (j : ℕ) → length (ps ++ j ∷ []) ≡ suc (length ps)
one_more ps j = omega (arith, length-append ps (j ∷ []))

abbrev pub with_place : {K : Type 0} → Heap K → List ℕ → ℕ → State K
with_place g ps j = record { heap = g; places = ps ++ j ∷ [] }

-- what a heap has of another
pub record Onto {K : Type 0} (m : Meaning K) (h g : Heap K) : Type 0 where
  pub good : Good m.widest g
  pub features : g.features ≡ h.features
  pub cells : length g.cells ≡ length h.cells
  pub slots : length g.slots ≡ length h.slots
  pub extends : Extends m h g

module _ {K : Type 0} (m : Meaning K) (s : State K) (o : InOrder m s) (g : Heap K) (a : Onto m s.heap g) where
  pub follows_heap : g.used ≡ s.heap.used → Follows m s (with_heap s g)
  follows_heap e =
      record {
        in_order = record { good = a.good; placed = λ x l. omega (arith, e, o.placed x l) };
        used = omega (arith, e);
        features = a.features;
        cells = a.cells;
        slots = a.slots;
        met = omega arith;
        room = omega (arith, e);
        places = λ x l. refl;
        pushed = λ j l n. absurd (omega (arith, e, l, n));
        extends = a.extends;
      }

  -- the new variable's cell is j, which is the new cell if there is one
  module _ (j : ℕ) (lj : j < g.used) (more : s.heap.used ≤ g.used) (most : g.used ≤ suc s.heap.used)
      (new : (i : ℕ) → s.heap.used ≤ i → i < g.used → i ≡ j) where
    placed : (x : ℕ) → x < length (s.places ++ j ∷ []) → slice_index (s.places ++ j ∷ []) x < g.used
    placed x l =
        elim (cases_eq x (length s.places)) [
          | inl e ↦ rw (e, places_new s.places j) lj
          | inr n ↦
              let old : x < length s.places = omega (arith, one_more s.places j, n, l) in
              rw (places_old s.places j x old) (omega (arith, o.placed x old, more))
        ]

    pub follows_met : Follows m s (with_place g s.places j)
    follows_met =
        record {
          in_order = record { good = a.good; placed = placed };
          used = more;
          features = a.features;
          cells = a.cells;
          slots = a.slots;
          met = omega (arith, one_more s.places j);
          room = omega (arith, one_more s.places j, most);
          places = λ x l. places_old s.places j x l;
          pushed = λ i l n. (length s.places, omega arith, omega (arith, one_more s.places j), places_new s.places j ∙ sym (new i l n));
          extends = a.extends;
        }
