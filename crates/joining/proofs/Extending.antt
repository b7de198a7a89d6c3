-- Heaps that say all that an earlier one says.
use Rattle.std.proofs.Common.{None, Some, arith, inl, inr, length, refl, sym, ℕ, ◌<◌, ◌∙◌, ◌≡◌, ◌≤◌}
use Rattle.std.proofs.lemmas.Option.{none-some}
use Rattle.std.proofs.lemmas.Bool.{cases_eq}
use Rattle.orders.specs.Meaning.{Meaning}
use Rattle.joining.specs.Good.{Good}
use Rattle.joining.specs.Heap.{Heap, end, fill, kind, push, set_kind, slot}
use Rattle.joining.specs.Law.{Extends}
use Rattle.joining.proofs.Kept.{end_in, fill_there}
use Rattle.joining.proofs.KindSet.{set_kind_end, set_kind_here, set_kind_there}
use Rattle.joining.proofs.Pushed.{push_end, push_kind, push_slot}

module _ {K : Type 0} (m : Meaning K) where
  pub extends_none : (h : Heap K) → Extends m h h
  extends_none h = record { ends = λ x y lx ly e. e; kinds = λ x l. m.itself (kind m.widest h (end m.widest h x)); leads = λ x f j l lf e. (j, e, refl) }

  pub extends_on : (h g k : Heap K) → Good m.widest h → Good m.widest g → h.used ≤ g.used → g.features ≡ h.features → Extends m h g → Extends m g k
      → Extends m h k
  extends_on h g k a b more same x y = record {
    ends = λ i j li lj e. y.ends i j (omega arith) (omega arith) (x.ends i j li lj e);
    kinds = λ i l. m.through (kind m.widest k (end m.widest k i)) (kind m.widest g (end m.widest g i)) (kind m.widest h (end m.widest h i)) (y.kinds i (omega arith)) (x.kinds i l);
    leads = λ i f j l lf e.
        let (n, s, p) = x.leads i f j l lf e in
        let (o, t, q) = y.leads i f n (omega arith) (omega arith) s in
        let held : j < h.used = a.held (end m.widest h i) f j (end_in m.widest h a i l) lf e in
        let found : n < g.used = b.held (end m.widest g i) f n (end_in m.widest g b i (omega arith)) (omega arith) s in
        (o, t, q ∙ y.ends n j found (omega arith) p);
  }

  module _ (h : Heap K) (g : Good m.widest h) where
    -- a kind of an end is narrowed
    pub extends_set_kind : (e : ℕ) (k : K) → e < h.used → m.under k (kind m.widest h e) → Extends m h (set_kind m.widest h e k)
    extends_set_kind e k le u = record {
      ends = λ x y lx ly q. set_kind_end m.widest h g e k le x ∙ q ∙ sym (set_kind_end m.widest h g e k le y);
      kinds = λ x l.
          rw (set_kind_end m.widest h g e k le x)
          (elim (cases_eq (end m.widest h x) e) [
            | inl q ↦ rw (q, set_kind_here m.widest h g e k le) u
            | inr n ↦ rw (set_kind_there m.widest h g e k le (end m.widest h x) n) (m.itself (kind m.widest h (end m.widest h x)))
          ]);
      leads = λ x f j l lf q. (j, rw (set_kind_end m.widest h g e k le x) q, refl);
    }

    pub extends_push : h.used < length h.cells → Extends m h (push m.widest h)
    extends_push room = record {
      ends = λ x y lx ly q. push_end m.widest h g room x ∙ q ∙ sym (push_end m.widest h g room y);
      kinds = λ x l. rw (push_end m.widest h g room x, push_kind m.widest h g room (end m.widest h x)) (m.itself (kind m.widest h (end m.widest h x)));
      leads = λ x f j l lf q. (j, rw (push_end m.widest h g room x, push_slot m.widest h g room (end m.widest h x) f lf) q, refl);
    }

    -- an empty slot is filled
    pub extends_fill : (e f j : ℕ) → e < h.used → f < h.features → slot h e f ≡ None → Extends m h (fill h e f j)
    extends_fill e f j le lf empty = record {
      ends = λ x y lx ly q. q;
      kinds = λ x l. m.itself (kind m.widest h (end m.widest h x));
      leads = λ x n i l ln q. (i, kept (end m.widest h x) n i ln q, refl);
    }
      where
        kept : (x n i : ℕ) → n < h.features → slot h x n ≡ Some i → slot (fill h e f j) x n ≡ Some i
        kept x n i ln q =
            elim (cases_eq x e) [
              | inl u ↦ elim (cases_eq n f) [ inl v ↦ absurd (none-some i (sym empty ∙ (rw (u, v) at q))) | inr v ↦ fill_there m.widest h g e f j le lf x n ln (inr v) ∙ q ]
              | inr u ↦ fill_there m.widest h g e f j le lf x n ln (inl u) ∙ q
            ]
