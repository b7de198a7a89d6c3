-- What a heap says stays true of a structure when a true thing is written.
use Rattle.std.proofs.Common.{Some, ap, arith, cond, inl, inr, length, refl, sym, ℕ, ◌<◌, ◌==◌, ◌∙◌, ◌≡◌}
use Rattle.std.proofs.lemmas.Option.{none-some}
use Rattle.std.proofs.lemmas.Bool.{cases_eq, cond-false, cond-true, eq-eqb, ne_eqb}
use Rattle.orders.specs.Meaning.{Meaning}
use Rattle.joining.specs.Good.{Good}
use Rattle.joining.specs.Heap.{Heap, end, kind, push, set_kind, slot}
use Rattle.joining.specs.Interpretation.{Sound, Structure}
use Rattle.joining.proofs.Kept.{end_in}
use Rattle.joining.proofs.KindSet.{set_kind_here, set_kind_refers, set_kind_there}
use Rattle.joining.proofs.Pushed.{push_kind, push_refers, push_slot}
use Rattle.joining.proofs.Tied.{label_end}

-- the thing of the new cell is the one given; the others stay
abbrev pub with_thing : {T : Type 0} → (ℕ → T) → ℕ → T → ℕ → T
with_thing thing n t i = cond (i == n) t (thing i)

pub with_thing_new : {T : Type 0} (thing : ℕ → T) (n : ℕ) (t : T) → with_thing thing n t n ≡ t
with_thing_new thing n t = cond-true _ _ _ (eq-eqb n n refl)

pub with_thing_old : {T : Type 0} (thing : ℕ → T) (n : ℕ) (t : T) (i : ℕ) → i < n → with_thing thing n t i ≡ thing i
with_thing_old thing n t i l = cond-false _ _ _ (ne_eqb i n (λ e. omega arith))

module _ {K T : Type 0} (m : Meaning K) (s : Structure K T) (thing : ℕ → T) (h : Heap K) (g : Good m.widest h) (t : Sound m s thing h) where
  -- the end of a cell is one thing with it, of a kind at or under the end's, and led on as the end's slots say
  pub sound_end : (i : ℕ) → i < h.used → thing (end m.widest h i) ≡ thing i
  sound_end i l = label_end m.widest h g thing t.one i l

  pub sound_kind : (i : ℕ) → i < h.used → m.under (s.kind_of (thing i)) (kind m.widest h (end m.widest h i))
  sound_kind i l = rw (sound_end i l) at (t.kinds (end m.widest h i) (end_in m.widest h g i l))

  pub sound_leads : (i f j : ℕ) → i < h.used → f < h.features → slot h (end m.widest h i) f ≡ Some j → s.feature f (thing i) ≡ Some (thing j)
  sound_leads i f j l lf e = rw (sound_end i l) at (t.leads (end m.widest h i) f j (end_in m.widest h g i l) lf e)

  pub sound_set_kind : (e : ℕ) (k : K) → e < h.used → m.under (s.kind_of (thing e)) k → Sound m s thing (set_kind m.widest h e k)
  sound_set_kind e k le u = record {
    one = λ i l. rw (set_kind_refers m.widest h g e k le i) (t.one i l);
    kinds = λ i l.
        elim (cases_eq i e) [
          | inl q ↦ rw (q, set_kind_here m.widest h g e k le) u
          | inr n ↦ rw (set_kind_there m.widest h g e k le i n) (t.kinds i l)
        ];
    leads = t.leads;
  }

  -- things of which the old ones are as before, and any thing at the new cell
  pub sound_push : (room : h.used < length h.cells) (to : ℕ → T) → ((i : ℕ) → i < h.used → to i ≡ thing i) → Sound m s to (push m.widest h)
  sound_push room to e = record {
    one = λ i l.
        elim (cases_eq i h.used) [
          | inl q ↦ ap to (push_refers m.widest h g room i ∙ g.fresh_refers i (omega arith))
          | inr n ↦ let old : i < h.used = omega arith in ap to (push_refers m.widest h g room i) ∙ e _ (g.inside i old) ∙ t.one i old ∙ sym (e i old)
        ];
    kinds = λ i l.
        elim (cases_eq i h.used) [
          | inl q ↦ rw (push_kind m.widest h g room i, g.fresh_kind i (omega arith)) (m.widest_is (s.kind_of (to i)))
          | inr n ↦ let old : i < h.used = omega arith in rw (push_kind m.widest h g room i, e i old) (t.kinds i old)
        ];
    leads = λ i f j l lf q.
        let was : slot h i f ≡ Some j = sym (push_slot m.widest h g room i f lf) ∙ q in
        elim (cases_eq i h.used) [
          | inl p ↦ absurd (none-some j (sym (g.fresh_slot i f (omega arith) lf) ∙ was))
          | inr n ↦ let old : i < h.used = omega arith in rw (e i old, e j (g.held i f j old lf was)) (t.leads i f j old lf was)
        ];
  }
