-- One pair is joined, by its two ends; and one pair after another.
use Rattle.std.proofs.Common.{◌≡◌, ℕ, zero, suc, ◌+◌, ◌-◌, ◌<◌, [], ◌∷◌, List, Some, None, Option, refl, sym, ap, ◌∙◌, arith}
use Rattle.std.proofs.lemmas.Bool.{eq-eqb, ne_eqb, cond-true, cond-false}
use Rattle.orders.specs.Meaning.{Meaning}
use Rattle.joining.specs.declared.cell.Cell.{Cell}
use Rattle.joining.specs.Heap.{Heap, end, kind, put_kind, put_refers}
use Rattle.joining.specs.Joining.{Carried, Work, carry, work, join_ends, join_pair, join_all}

module _ {K : Type 0} (m : Meaning K) (room : ℕ) (p : ℕ × ℕ) (w : Work K) (q : ℕ × ℕ) (ends : q ≡ (end m.widest w.heap p.0, end m.widest w.heap p.1)) where
  abbrev a : ℕ
  a = q.0

  abbrev b : ℕ
  b = q.1

  first : a ≡ end m.widest w.heap p.0
  first = ap (λ (x : ℕ × ℕ). x.0) ends

  second : b ≡ end m.widest w.heap p.1
  second = ap (λ (x : ℕ × ℕ). x.1) ends

  pub pair_same : a ≡ b → join_pair m room p w ≡ Some w
  unfolding join_pair
  pair_same e = cond-true _ _ _ (eq-eqb _ _ (sym first ∙ e ∙ second))

  module _ (apart : a ≡ b → ⊥) (k l : K) (mine : k ≡ kind m.widest w.heap a) (theirs : l ≡ kind m.widest w.heap b) where
    pair_apart : (o : Option K) → o ≡ m.common k l → join_pair m room p w ≡ join_ends m room a b o w
    unfolding join_pair
    pair_apart o e =
        let J = λ (x y : ℕ). join_ends m room x y (m.common (kind m.widest w.heap x) (kind m.widest w.heap y)) w in
        cond-false _ _ _ (ne_eqb _ _ (λ r. apart (first ∙ r ∙ sym second)))
        ∙ ap (λ (x : ℕ). J x (end m.widest w.heap p.1)) (sym first)
        ∙ ap (λ (y : ℕ). J a y) (sym second)
        ∙ ap (λ (x : K). join_ends m room a b (m.common x (kind m.widest w.heap b)) w) (sym mine)
        ∙ ap (λ (y : K). join_ends m room a b (m.common k y) w) (sym theirs)
        ∙ ap (λ (o : Option K). join_ends m room a b o w) (sym e)

    pub pair_clash : None ≡ m.common k l → join_pair m room p w ≡ None
    unfolding join_ends
    pair_clash e = pair_apart None e

    pub pair_bound : (c : K) → Some c ≡ m.common k l
        → (cells : List (Cell K)) → cells ≡ put_refers m.widest (put_kind m.widest w.heap.cells a c) b a
        → (v : Carried) → v ≡ carry room w.heap.features a b w.heap.features (record { slots = w.heap.slots; pending = w.pending })
        → join_pair m room p w ≡ Some (work (record { used = w.heap.used; features = w.heap.features; cells = cells; slots = w.heap.slots }) v)
    unfolding join_ends
    pair_bound c e cells ec v ev =
        let J = λ (x : List (Cell K)) (u : Carried). Some (work (record { used = w.heap.used; features = w.heap.features; cells = x; slots = w.heap.slots }) u) in
        let u = carry room w.heap.features a b w.heap.features (record { slots = w.heap.slots; pending = w.pending }) in
        pair_apart (Some c) e ∙ ap (λ (x : List (Cell K)). J x u) (sym ec) ∙ ap (λ (u : Carried). J cells u) (sym ev)

module _ {K : Type 0} (m : Meaning K) (room : ℕ) where
  pub all_none : (n : ℕ) (h : Heap K) → join_all m room n [] h ≡ Some h
  unfolding join_all
  all_none zero h = refl
  all_none (suc n) h = refl

  pub all_over : (n : ℕ) (ps : List (ℕ × ℕ)) (h : Heap K) → n ≡ 0 → join_all m room n ps h ≡ Some h
  unfolding join_all
  all_over n ps h e = ap (λ (n : ℕ). join_all m room n ps h) e

  abbrev more : Option (Work K) → ℕ → Option (Heap K)
  more s n = elim s [ Some w ↦ join_all m room n w.pending w.heap | None ↦ None ]

  module _ (n i : ℕ) (p : ℕ × ℕ) (w : Work K) (l : i < n) where
    all_more : join_all m room (n - i) (p ∷ w.pending) w.heap ≡ more (join_pair m room p w) (n - (i + 1))
    unfolding join_all
    all_more =
        let e : n - i ≡ suc (n - (i + 1)) = omega arith in
        ap (λ (n : ℕ). join_all m room n (p ∷ w.pending) w.heap) e

    pub all_stepped : (v : Work K) → join_pair m room p w ≡ Some v
        → join_all m room (n - i) (p ∷ w.pending) w.heap ≡ join_all m room (n - (i + 1)) v.pending v.heap
    all_stepped v e = all_more ∙ ap (λ (s : Option (Work K)). more s (n - (i + 1))) e

    pub all_clash : join_pair m room p w ≡ None → join_all m room (n - i) (p ∷ w.pending) w.heap ≡ None
    all_clash e = all_more ∙ ap (λ (s : Option (Work K)). more s (n - (i + 1))) e
