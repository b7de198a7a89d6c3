-- A feature statement whose value was met before: the value's cell is joined with the cell in the slot, or fills the slot; or the two
-- cells are one nowhere.
use Rattle.std.proofs.Common.{None, Option, Some, [], ap, arith, length, refl, slice_index, sym, ℕ, ◌<◌, ◌==◌, ◌∙◌, ◌∷◌, ◌≡◌}
use Rattle.std.proofs.lemmas.Bool.{cond-false, ne_eqb}
use Rattle.orders.specs.Meaning.{Meaning}
use Rattle.grammar.specs.declared.statement.Statement.TheVariants.{Feature}
use Rattle.joining.specs.Heap.{Heap, end, fill, slot}
use Rattle.joining.specs.Interpretation.{Structure}
use Rattle.joining.specs.Joining.{join}
use Rattle.joining.specs.Law.{Joins, Outcome}
use Rattle.joining.proofs.Extending.{extends_fill}
use Rattle.joining.proofs.Join.{join_law}
use Rattle.joining.proofs.Kept.{end_in, fill_here, good_fill}
use Rattle.joining.proofs.Sounding.{sound_end, sound_leads}
use Rattle.joining.proofs.Truth.{sound_fill}
use Rattle.joining.proofs.Writes.{put_slot_length}
use Rattle.performing.specs.Following.{InOrder, Performed, SoundFor, Step, met_by}
use Rattle.performing.specs.Performing.{State, end_of, tied, with_heap}
use Rattle.performing.specs.Structures.{Says, structure_of}
use Rattle.performing.proofs.Onward.{leads_to}
use Rattle.performing.proofs.Places.{follows_heap}

module _ {K : Type 0} (m : Meaning K) (T : Type 0) (s : State K) (o : InOrder m s) (x f y : ℕ) (lx : x < length s.places) (lf : f < s.heap.features)
    (ly : y < length s.places) where
  abbrev cell : ℕ
  cell = slice_index s.places x

  abbrev other : ℕ
  other = slice_index s.places y

  abbrev e : ℕ
  e = end m.widest s.heap cell

  in_use : e < s.heap.used
  in_use = end_in m.widest s.heap o.good cell (o.placed x lx)

  -- no variable more is met
  counts : length s.places ≡ met_by {K = K} (length s.places) (Feature x f y ∷ [])
  unfolding met_by
  counts = sym (cond-false (y == length s.places) _ _ (ne_eqb y (length s.places) (λ e. omega arith)))

  module _ (j : ℕ) (held : slot s.heap e f ≡ Some j) where
    j_in : j < s.heap.used
    j_in = o.good.held e f j in_use lf held

    -- what the slot holds and the value are one thing
    one_thing : (r : Structure K T) (thing value : ℕ → T) → SoundFor m r thing value s → Says m r value (Feature x f y) → thing j ≡ thing other
    one_thing r thing value g says =
        let there = sound_leads m r thing s.heap o.good g.sound cell f j (o.placed x lx) lf held in
        let here : r.feature f (value x) ≡ Some (thing j) = rw (g.values x lx) at there in
        let one : thing j ≡ value y = cc (here, says) in
        one ∙ sym (g.values y ly)

    module _ (g : Heap K) (a : Joins T m j other s.heap g) where
      leads_on : Says m (structure_of m g) (end_of m (with_heap s g)) (Feature x f y)
      leads_on =
          let (k, q, p) = a.extends.leads cell f j (o.placed x lx) lf held in
          leads_to m g (end m.widest g cell) f k (omega (arith, a.features)) q ∙ ap Some (p ∙ a.one)

      joined : Performed m T (Feature x f y ∷ []) s (with_heap s g)
      joined =
          record {
            follows = follows_heap m s o g (record { good = a.good; features = a.features; cells = a.cells; slots = a.slots; extends = a.extends }) a.used;
            count = counts;
            true_of = (leads_on, tt);
            keeps = λ r thing value v says.
                (thing, λ i l. refl, record { sound = a.sound r thing v.sound (one_thing r thing value v says.0); values = v.values });
          }

    join_step : (h : Option (Heap K)) → Outcome T m j other s.heap h
        → Step m T (Feature x f y) s (elim h [ Some g ↦ Some (with_heap s g) | None ↦ None ])
    join_step (Some g) a = joined g a
    join_step None never = λ r thing value v says. never r thing v.sound (one_thing r thing value v says.0)

  module _ (empty : slot s.heap e f ≡ None) where
    abbrev g : Heap K
    g = fill s.heap e f other

    here : slot g e f ≡ Some other
    here = fill_here m.widest s.heap o.good e f other in_use lf

    filled : Performed m T (Feature x f y ∷ []) s (with_heap s g)
    filled =
        record {
          follows =
              follows_heap m s o g
              (record {
                good = good_fill m.widest s.heap o.good e f other in_use lf (o.placed y ly);
                features = refl;
                cells = refl;
                slots = put_slot_length s.heap.slots s.heap.features e f other;
                extends = extends_fill m s.heap o.good e f other in_use lf empty;
              })
              refl;
          count = counts;
          true_of = (leads_to m g e f other lf here, tt);
          keeps = λ r thing value v says.
              let one = sound_end m r thing s.heap o.good v.sound cell (o.placed x lx) in
              let leads : r.feature f (thing e) ≡ Some (thing other) = rw (one, v.values x lx, v.values y ly) says.0 in
              (thing, λ i l. refl, record { sound = sound_fill m r thing s.heap o.good v.sound e f other in_use lf leads; values = v.values });
        }

  pub tying : (c : Option ℕ) → slot s.heap e f ≡ c → Step m T (Feature x f y) s (tied m e f other c s)
  unfolding tied
  tying (Some j) q = join_step j q (join m j other s.heap) (join_law T m s.heap j other o.good (j_in j q) (o.placed y ly)).0
  tying None q = filled q
