-- A feature statement whose value is a new variable: it is met in the slot, or in a new cell that fills the slot.
use Rattle.std.proofs.Common.{None, Option, Some, [], ap, arith, inl, inr, length, refl, slice_index, sym, ℕ, ◌++◌, ◌<◌, ◌==◌, ◌∙◌, ◌∷◌, ◌≡◌}
use Rattle.std.proofs.lemmas.Bool.{cases_eq, cond-true, eq-eqb}
use Rattle.orders.specs.Meaning.{Meaning}
use Rattle.grammar.specs.declared.statement.Statement.TheVariants.{Feature}
use Rattle.joining.specs.Good.{Good}
use Rattle.joining.specs.Heap.{Heap, end, fill, push, slot}
use Rattle.joining.specs.Interpretation.{Structure}
use Rattle.joining.proofs.Extending.{extends_fill, extends_none, extends_on, extends_push}
use Rattle.joining.proofs.Kept.{end_in, fill_here, good_fill}
use Rattle.joining.proofs.Pushed.{good_push, push_end, push_length, push_slot, push_slots}
use Rattle.joining.proofs.Sounding.{sound_end, sound_leads, sound_push, with_thing, with_thing_new, with_thing_old}
use Rattle.joining.proofs.Truth.{sound_fill}
use Rattle.joining.proofs.Writes.{put_slot_length}
use Rattle.performing.specs.Following.{InOrder, KeepsSound, Performed, SoundFor, met_by}
use Rattle.performing.specs.Performing.{State, end_of, met}
use Rattle.performing.specs.Structures.{Says, structure_of}
use Rattle.performing.proofs.Onward.{leads_to}
use Rattle.performing.proofs.Places.{Onto, follows_met, one_more, places_new, places_old, with_place}

module _ {K : Type 0} (m : Meaning K) (T : Type 0) (s : State K) (o : InOrder m s) (x f : ℕ) (lx : x < length s.places)
    (lf : f < s.heap.features) where
  abbrev cell : ℕ
  cell = slice_index s.places x

  abbrev e : ℕ
  e = end m.widest s.heap cell

  abbrev y : ℕ
  y = length s.places

  in_use : e < s.heap.used
  in_use = end_in m.widest s.heap o.good cell (o.placed x lx)

  -- a variable more is met
  counts : (j : ℕ) → length (s.places ++ j ∷ []) ≡ met_by {K = K} (length s.places) (Feature x f y ∷ [])
  unfolding met_by
  counts j = one_more s.places j ∙ sym (cond-true (y == length s.places) _ _ (eq-eqb y y refl))

  -- the slot of the subject's end leads to the new variable's end
  leads_on : (g : Heap K) (j : ℕ) → f < g.features → slot g (end m.widest g cell) f ≡ Some j
      → Says m (structure_of m g) (end_of m (with_place g s.places j)) (Feature x f y)
  leads_on g j l q = rw (places_old s.places j x lx, places_new s.places j) (leads_to m g (end m.widest g cell) f j l q)

  -- the values of the variables, where the new one's thing is that of its cell
  values_too : {r : Structure K T} (thing new value : ℕ → T) (j : ℕ) → SoundFor m r thing value s → ((i : ℕ) → i < s.heap.used → new i ≡ thing i)
      → new j ≡ value y
      → (z : ℕ) → z < length (s.places ++ j ∷ []) → new (slice_index (s.places ++ j ∷ []) z) ≡ value z
  values_too thing new value j g same q z l =
      elim (cases_eq z y) [
        | inl p ↦ rw (p, places_new s.places j) q
        | inr n ↦
            let old : z < length s.places = omega (arith, one_more s.places j, n, l) in
            ap new (places_old s.places j z old) ∙ same (slice_index s.places z) (o.placed z old) ∙ g.values z old
      ]

  module _ (j : ℕ) (held : slot s.heap e f ≡ Some j) where
    j_in : j < s.heap.used
    j_in = o.good.held e f j in_use lf held

    found : Performed m T (Feature x f y ∷ []) s (with_place s.heap s.places j)
    found =
        record {
          follows =
              follows_met m s o s.heap
              (record { good = o.good; features = refl; cells = refl; slots = refl; extends = extends_none m s.heap })
              j j_in (omega arith) (omega arith) (λ i l n. absurd (omega arith));
          count = counts j;
          true_of = (leads_on s.heap j lf held, tt);
          keeps = λ r thing value g says.
              let there = sound_leads m r thing s.heap o.good g.sound cell f j (o.placed x lx) lf held in
              let here : r.feature f (value x) ≡ Some (thing j) = rw (g.values x lx) at there in
              let one : thing j ≡ value y = cc (here, says.0) in
              (thing, λ i l. refl, record { sound = g.sound; values = values_too thing thing value j g (λ i l. refl) one });
        }

  module _ (empty : slot s.heap e f ≡ None) (room : s.heap.used < length s.heap.cells) where
    abbrev pushed : Heap K
    pushed = push m.widest s.heap

    good_pushed : Good m.widest pushed
    good_pushed = good_push m.widest s.heap o.good room

    abbrev g : Heap K
    g = fill pushed e f s.heap.used

    still_empty : slot pushed e f ≡ None
    still_empty = push_slot m.widest s.heap o.good room e f lf ∙ empty

    e_in : e < pushed.used
    e_in = omega (arith, in_use)

    onto : Onto m s.heap g
    onto =
        record {
          good = good_fill m.widest pushed good_pushed e f s.heap.used e_in lf (omega arith);
          features = refl;
          cells = push_length m.widest s.heap o.good room;
          slots = put_slot_length pushed.slots s.heap.features e f s.heap.used ∙ push_slots m.widest s.heap o.good room;
          extends =
              extends_on m s.heap pushed g o.good good_pushed (omega arith) refl
              (extends_push m s.heap o.good room) (extends_fill m pushed good_pushed e f s.heap.used e_in lf still_empty);
        }

    -- the new cell is any thing: it is the new variable's
    keeps : KeepsSound m T (Feature x f y ∷ []) s (with_place g s.places s.heap.used)
    keeps r thing value v says =
        let new = with_thing thing s.heap.used (value y) in
        let old : (i : ℕ) → i < s.heap.used → new i ≡ thing i = λ i l. with_thing_old thing s.heap.used (value y) i l in
        let here : new s.heap.used ≡ value y = with_thing_new thing s.heap.used (value y) in
        let at_e : new e ≡ value x = old e in_use ∙ sound_end m r thing s.heap o.good v.sound cell (o.placed x lx) ∙ v.values x lx in
        let leads : r.feature f (new e) ≡ Some (new s.heap.used) = rw (at_e, here) says.0 in (
          new,
          old,
          record {
            sound = sound_fill m r new pushed good_pushed (sound_push m r thing s.heap o.good v.sound room new old) e f s.heap.used e_in lf leads;
            values = values_too thing new value s.heap.used v old here;
          },
        )

    made : Performed m T (Feature x f y ∷ []) s (with_place g s.places s.heap.used)
    made =
        record {
          follows = follows_met m s o g onto s.heap.used (omega arith) (omega arith) (omega arith) (λ i l n. omega arith);
          count = counts s.heap.used;
          true_of = (
            leads_on g s.heap.used lf
                (rw (push_end m.widest s.heap o.good room cell) (fill_here m.widest pushed good_pushed e f s.heap.used e_in lf)),
            tt,
          );
          keeps = keeps;
        }

  pub meeting : s.heap.used < length s.heap.cells → (c : Option ℕ) → slot s.heap e f ≡ c → Performed m T (Feature x f y ∷ []) s (met m e f c s)
  unfolding met
  meeting room (Some j) q = found j q
  meeting room None q = made q room
