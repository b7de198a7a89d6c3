-- A pair of cells among the first n is joined: nothing comes to lead out of them, and what lies past them stays.
use Rattle.std.proofs.Common.{◌≡◌, ℕ, zero, suc, ◌*◌, ◌<◌, ◌≤◌, List, ◌∷◌, length, drop, nat_lt, Some, None, Option, refl, ◌∙◌, ◌==◌, arith}
use Rattle.std.proofs.lemmas.Bool.{cond_both}
use Rattle.orders.specs.Meaning.{Meaning}
use Rattle.joining.specs.Heap.{Heap, end, kind, refers_in, slot_in, put_kind}
use Rattle.joining.specs.Joining.{Carried, Work, add_pair, carry_one, carry, join_ends, join_pair}
use Rattle.joining.proofs.Follow.{follow_in}
use Rattle.joining.proofs.Ready.{Inside}
use Rattle.cases.specs.Within.{Within, Beyond}
use Rattle.cases.proofs.Writing.{Lead, lead_slot, refer_kind, refer_refers}

-- the end of a cell among them is among them
pub end_within : {K : Type 0} (top : K) (n : ℕ) (h : Heap K) → Within n h.features h.cells h.slots top → (i : ℕ) → i < n → end top h i < n
end_within top n h w i l = follow_in (refers_in top h.cells) n w.refers (length h.cells) i l

module _ (n features room a b : ℕ) (la : a < n) (lb : b < n) (start : List (Option ℕ)) where
  -- what features that are carried keep
  pub record Carries (v : Carried) : Type 0 where
    pub leads : Lead n features v.slots
    pub past : drop (n * features) v.slots ≡ drop (n * features) start
    pub inside : Inside n v.pending

  add_inside : (p : ℕ × ℕ) (ps : List (ℕ × ℕ)) → p.0 < n → p.1 < n → Inside n ps → Inside n (add_pair room p ps)
  unfolding add_pair
  add_inside p ps k l i = cond_both (nat_lt (length ps) room) (p ∷ ps) ps (Inside n) (λ e. (k, l, i)) (λ e. i)

  one_carries : (f : ℕ) (v : Carried) (mine other : Option ℕ) → f < features → Carries v → slot_in v.slots features a f ≡ mine → slot_in v.slots features b f ≡ other
      → Carries (carry_one room features a f mine other v)
  unfolding carry_one
  one_carries f v mine None l c x y = c
  one_carries f v None (Some j) l c x y =
      let w = lead_slot n features v.slots c.leads a la f j l (c.leads b f j lb l y) in
      record { leads = w.0; past = w.1 ∙ c.past; inside = c.inside }
  one_carries f v (Some i) (Some j) l c x y =
      record { leads = c.leads; past = c.past; inside = add_inside (i, j) v.pending (c.leads a f i la l x) (c.leads b f j lb l y) c.inside }

  pub carries : (k : ℕ) (v : Carried) → k ≤ features → Carries v → Carries (carry room features a b k v)
  unfolding carry
  carries zero v l c = c
  carries (suc f) v l c =
      let u = carry room features a b f v in
      one_carries f u (slot_in u.slots features a f) (slot_in u.slots features b f) (omega arith) (carries f v (omega arith) c) refl refl

module _ {K : Type 0} (m : Meaning K) (n : ℕ) where
  -- the work v comes after the heap h, in the same case
  pub record Keeps (h : Heap K) (v : Work K) : Type 0 where
    pub used : v.heap.used ≡ h.used
    pub features : v.heap.features ≡ h.features
    pub within : Within n h.features v.heap.cells v.heap.slots m.widest
    pub beyond : Beyond n h.features h.cells h.slots v.heap.cells v.heap.slots
    pub inside : Inside n v.pending

  abbrev pub KeepsIf : Heap K → Option (Work K) → Type 0
  KeepsIf h (Some v) = Keeps h v
  KeepsIf h None = Unit {0}

  module _ (room : ℕ) (w : Work K) (x : Within n w.heap.features w.heap.cells w.heap.slots m.widest) (inside : Inside n w.pending) where
    ends_keep : (a b : ℕ) (o : Option K) → a < n → b < n → KeepsIf w.heap (join_ends m room a b o w)
    unfolding join_ends
    ends_keep a b None la lb = tt
    ends_keep a b (Some k) la lb =
        let first = refer_kind m.widest n w.heap.cells x.refers a la k in
        let second = refer_refers m.widest n (put_kind m.widest w.heap.cells a k) first.0 b lb a la in
        let c = carries n w.heap.features room a b la lb w.heap.slots w.heap.features (record { slots = w.heap.slots; pending = w.pending }) (omega arith)
        (record { leads = x.leads; past = refl; inside = inside }) in
        record {
          used = refl;
          features = refl;
          within = record { refers = second.0; leads = c.leads };
          beyond = (second.1 ∙ first.1, c.past);
          inside = c.inside;
        }

    pub pair_keeps : (p : ℕ × ℕ) → p.0 < n → p.1 < n → KeepsIf w.heap (join_pair m room p w)
    unfolding join_pair
    pair_keeps p l r =
        let a = end m.widest w.heap p.0 in
        let b = end m.widest w.heap p.1 in
        cond_both (a == b) _ _ (KeepsIf w.heap)
        (λ t. record { used = refl; features = refl; within = x; beyond = (refl, refl); inside = inside })
        (λ f. ends_keep a b (m.common (kind m.widest w.heap a) (kind m.widest w.heap b)) (end_within m.widest n w.heap x p.0 l) (end_within m.widest n w.heap x p.1 r))
