-- What is written of a state whose registers have none but the first n cells: it comes to no cell past them.
use Rattle.std.proofs.Common.{◌≡◌, ℕ, ◌<◌, ◌==◌, List, [], ◌∷◌, ◌++◌, length, set, Some, slice_index, refl, sym, subst, inl, inr, arith}
use Rattle.std.proofs.lemmas.Bool.{cases_eq, cases_lt, cond_both}
use Rattle.std.proofs.lemmas.List.{get_or-set_same, get_or-set_other, set_past, get_or_past, get_or_push, get_or_append_left, length_push}
use Rattle.orders.specs.Meaning.{Meaning}
use Rattle.joining.specs.Heap.{Heap, push, set_kind, fill}
use Rattle.performing.specs.Performing.{State, with_heap, end_of}
use Rattle.instructions.specs.Steps.{set_place, place}
use Rattle.cases.specs.Within.{Within, Beyond}
use Rattle.cases.specs.Machines.{StateWithin}
use Rattle.cases.proofs.Writing.{refer_kind, refer_new, lead_slot, lead_emptied}
use Rattle.cases.proofs.Pairing.{end_within}
use Rattle.cases.proofs.Keeping.{JoinKeeps}

module _ (n : ℕ) (ps : List ℕ) (below : (q : ℕ) → slice_index ps q < n) (c : ℕ) (l : c < n) where
  pushed_below : (q : ℕ) → slice_index (ps ++ c ∷ []) q < n
  pushed_below q =
      elim (cases_lt q (length ps)) [
        | inl old ↦ subst (λ (x : ℕ). x < n) (sym (get_or_append_left ps (c ∷ []) 0 q old)) (below q)
        | inr more ↦
            elim (cases_eq q (length ps)) [
              | inl e ↦ subst (λ (x : ℕ). x < n) (sym (get_or_push ps c 0 q (sym e))) l
              | inr ne ↦ subst (λ (x : ℕ). x < n) (sym (get_or_past (ps ++ c ∷ []) q 0 (omega (arith, length_push ps c, more, ne)))) (omega (arith, l))
            ]
      ]

  set_below : (r q : ℕ) → slice_index (set ps r c) q < n
  set_below r q =
      elim (cases_eq q r) [
        | inr ne ↦ subst (λ (x : ℕ). x < n) (sym (get_or-set_other ps r q c 0 ne)) (below q)
        | inl e ↦
            elim (cases_lt r (length ps)) [
              | inl in_it ↦ subst (λ (k : ℕ). slice_index (set ps r c) k < n) (sym e) (subst (λ (x : ℕ). x < n) (sym (get_or-set_same ps r c 0 in_it)) l)
              | inr past ↦ subst (λ (xs : List ℕ). slice_index xs q < n) (sym (set_past ps r c past)) (below q)
            ]
      ]

  pub placed_below : (r q : ℕ) → slice_index (set_place r c ps) q < n
  placed_below r q = cond_both (r == length ps) (ps ++ c ∷ []) (set ps r c) (λ (xs : List ℕ). slice_index xs q < n) (λ e. pushed_below q) (λ e. set_below r q)

module _ {K : Type 0} (m : Meaning K) (n : ℕ) where
  -- the state u comes after s, in the same case
  pub record StateKeeps (s u : State K) : Type 0 where
    pub features : u.heap.features ≡ s.heap.features
    pub state : StateWithin m n u
    pub beyond : Beyond n s.heap.features s.heap.cells s.heap.slots u.heap.cells u.heap.slots

  module _ (s : State K) (x : StateWithin m n s) where
    pub end_below : (r : ℕ) → end_of m s r < n
    end_below r = end_within m.widest n s.heap x.heap (place s r) (x.places r)

    pub stays : StateKeeps s s
    stays = record { features = refl; state = x; beyond = (refl, refl) }

    pub kind_set : (i : ℕ) (k : K) → i < n → StateKeeps s (with_heap s (set_kind m.widest s.heap i k))
    kind_set i k l =
        let w = refer_kind m.widest n s.heap.cells x.heap.refers i l k in
        record { features = refl; state = record { heap = record { refers = w.0; leads = x.heap.leads }; places = x.places }; beyond = (w.1, refl) }

    pub filled : (e f c : ℕ) → e < n → f < s.heap.features → c < n → StateKeeps s (with_heap s (fill s.heap e f c))
    filled e f c l lf lc =
        let w = lead_slot n s.heap.features s.heap.slots x.heap.leads e l f c lf lc in
        record { features = refl; state = record { heap = record { refers = x.heap.refers; leads = w.0 }; places = x.places }; beyond = (refl, w.1) }

    pub one_pushed : (r : ℕ) → s.heap.used < n → StateKeeps s (record { heap = push m.widest s.heap; places = set_place r s.heap.used s.places })
    one_pushed r l =
        let w = refer_new m.widest n s.heap.cells x.heap.refers s.heap.used l in
        let v = lead_emptied n s.heap.features s.heap.slots x.heap.leads s.heap.used l s.heap.features (omega arith) in
        record {
          features = refl;
          state = record { heap = record { refers = w.0; leads = v.0 }; places = placed_below n s.places x.places s.heap.used l r };
          beyond = (w.1, v.1);
        }

    pub joined : (h : Heap K) → JoinKeeps m n s.heap (Some h) → StateKeeps s (with_heap s h)
    joined h y =
        record {
          features = y.features;
          state = record { heap = subst (λ (f : ℕ). Within n f h.cells h.slots m.widest) (sym y.features) y.within; places = x.places };
          beyond = y.beyond;
        }
