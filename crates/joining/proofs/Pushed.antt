-- One more cell is in use: what is read of a heap in order stays as it was, since cells that are not in use are already as `push` leaves
-- them.
use Rattle.std.proofs.Common.{None, ap, arith, inl, inr, length, suc, sym, zero, ℕ, ◌*◌, ◌<◌, ◌∙◌, ◌≡◌}
use Rattle.std.proofs.lemmas.Option.{none-some}
use Rattle.std.proofs.lemmas.Bool.{cases_eq, eq-eqb}
use Rattle.joining.specs.Good.{Good, Reaches, away}
use Rattle.joining.specs.Heap.{Heap, end, follow, kind, push, refers, slot}
use Rattle.joining.proofs.Follow.{away_agrees, follow_alike}
use Rattle.joining.proofs.Kept.{root_end}
use Rattle.joining.proofs.Writes.{emptied_here, emptied_length, emptied_there, put_new_kind, put_new_kind_there, put_new_length, put_new_refers, put_new_refers_there}

module _ {K : Type 0} (top : K) (h : Heap K) (g : Good top h) (room : h.used < length h.cells) where
  pub push_length : length (push top h).cells ≡ length h.cells
  push_length = put_new_length top h.cells h.used

  pub push_slots : length (push top h).slots ≡ length h.slots
  push_slots = emptied_length h.slots (h.used * h.features) h.features

  pub push_refers : (i : ℕ) → refers top (push top h) i ≡ refers top h i
  push_refers i =
      elim (cases_eq i h.used) [
        | inl e ↦ rw e (put_new_refers top h.cells h.used room ∙ sym (g.fresh_refers h.used (omega arith)))
        | inr n ↦ put_new_refers_there top h.cells h.used i n
      ]

  pub push_kind : (i : ℕ) → kind top (push top h) i ≡ kind top h i
  push_kind i =
      elim (cases_eq i h.used) [
        | inl e ↦ rw e (put_new_kind top h.cells h.used room ∙ sym (g.fresh_kind h.used (omega arith)))
        | inr n ↦ put_new_kind_there top h.cells h.used i n
      ]

  pub push_slot : (i f : ℕ) → f < h.features → slot (push top h) i f ≡ slot h i f
  push_slot i f l =
      elim (cases_eq i h.used) [
        | inl e ↦ rw e (emptied_here h.slots h.features h.used h.features f (length h.cells) (omega arith) l room g.size ∙ sym (g.fresh_slot h.used f (omega arith) l))
        | inr n ↦ emptied_there h.slots h.features h.used h.features i f (omega arith) l n
      ]

  pub push_end : (i : ℕ) → end top (push top h) i ≡ end top h i
  push_end i = ap (λ n. follow (refers top (push top h)) n i) push_length ∙ follow_alike (refers top h) (refers top (push top h)) push_refers (length h.cells) i

  -- the new cell is its own end, of the widest kind, with no slot filled
  pub push_new_end : end top (push top h) h.used ≡ h.used
  push_new_end = push_end h.used ∙ root_end top h h.used (g.fresh_refers h.used (omega arith))

  pub push_new_kind : kind top (push top h) h.used ≡ top
  push_new_kind = push_kind h.used ∙ g.fresh_kind h.used (omega arith)

  pub push_new_slot : (f : ℕ) → f < h.features → slot (push top h) h.used f ≡ None
  push_new_slot f l = push_slot h.used f l ∙ g.fresh_slot h.used f (omega arith) l

  push_away : away (refers top (push top h)) (suc h.used) ≡ away (refers top h) h.used
  unfolding away
  push_away =
      let own = eq-eqb (refers top (push top h) h.used) h.used (push_refers h.used ∙ g.fresh_refers h.used (omega arith)) in
      rw (own, away_agrees (refers top h) (refers top (push top h)) h.used (λ i l. push_refers i))

  push_reaches : (i : ℕ) → i < suc h.used → Reaches (refers top (push top h)) (away (refers top h) h.used) i
  unfolding follow
  push_reaches i l =
      elim (cases_eq i h.used) [
        | inl e ↦ rw e (zero, omega arith, push_refers h.used ∙ g.fresh_refers h.used (omega arith))
        | inr n ↦
            let (k, le, e) = g.reaches i (omega arith) in
            (k, le, rw (follow_alike (refers top h) (refers top (push top h)) push_refers k i, push_refers (follow (refers top h) k i)) e)
      ]

  pub good_push : Good top (push top h)
  good_push = record {
    room = omega (arith, push_length);
    size = push_slots ∙ g.size ∙ ap (λ n. n * h.features) (sym push_length);
    inside = λ i l.
        elim (cases_eq i h.used) [
          | inl e ↦ rw (e, push_refers h.used, g.fresh_refers h.used (omega arith)) (omega arith)
          | inr n ↦ rw (push_refers i) (omega (arith, g.inside i (omega arith)))
        ];
    reaches = λ i l. rw push_away (push_reaches i l);
    held = λ i f j l lf e.
        elim (cases_eq i h.used) [
          | inl q ↦ absurd (none-some j (sym (g.fresh_slot i f (omega arith) lf) ∙ sym (push_slot i f lf) ∙ e))
          | inr n ↦ omega (arith, g.held i f j (omega arith) lf (sym (push_slot i f lf) ∙ e))
        ];
    fresh_refers = λ i l. push_refers i ∙ g.fresh_refers i (omega arith);
    fresh_kind = λ i l. push_kind i ∙ g.fresh_kind i (omega arith);
    fresh_slot = λ i f l lf. push_slot i f lf ∙ g.fresh_slot i f (omega arith) lf;
  }
