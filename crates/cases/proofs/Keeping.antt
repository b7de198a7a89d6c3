-- Pairs of cells among the first n are joined one after the other, as a whole and in memory.
use Rattle.std.proofs.Common.{◌≡◌, ℕ, zero, suc, ◌-◌, ◌*◌, ◌<◌, ◌≤◌, List, [], ◌∷◌, length, get_or, set, drop, Some, None, Option, refl, sym, ◌∙◌, subst, arith}
use Rattle.orders.specs.Meaning.{Meaning}
use Rattle.joining.specs.declared.cell.Cell.{Cell}
use Rattle.joining.specs.Heap.{Heap}
use Rattle.joining.specs.Joining.{Work, join_pair, join_all}
use Rattle.joining.proofs.Enough.{at}
use Rattle.joining.proofs.Ready.{Inside}
use Rattle.cases.specs.Memory.{heap_in, work_in}
use Rattle.cases.specs.Within.{Within, Beyond}
use Rattle.cases.proofs.Pending.{latest_put, latest_taken}
use Rattle.cases.proofs.Pairing.{Keeps, KeepsIf, pair_keeps}

module _ {K : Type 0} (m : Meaning K) (n : ℕ) where
  keeps_none : (h : Heap K) → Within n h.features h.cells h.slots m.widest → Keeps m n h (at h [])
  keeps_none h x = record { used = refl; features = refl; within = x; beyond = (refl, refl); inside = tt }

  keeps_then : (h : Heap K) (v u : Work K) → Keeps m n h v → Keeps m n v.heap u → Keeps m n h u
  keeps_then h v u a b =
      record {
        used = b.used ∙ a.used;
        features = b.features ∙ a.features;
        within = subst (λ (f : ℕ). Within n f u.heap.cells u.heap.slots m.widest) a.features b.within;
        beyond = (b.beyond.0 ∙ a.beyond.0, subst (λ (f : ℕ). drop (n * f) u.heap.slots ≡ drop (n * f) v.heap.slots) a.features b.beyond.1 ∙ a.beyond.1);
        inside = b.inside;
      }

  abbrev pub JoinKeeps : Heap K → Option (Heap K) → Type 0
  JoinKeeps h (Some g) = Keeps m n h (at g [])
  JoinKeeps h None = Unit {0}

  joins_then : (h : Heap K) (w : Work K) → Keeps m n h w → (r : Option (Heap K)) → JoinKeeps w.heap r → JoinKeeps h r
  joins_then h w a (Some g) b = keeps_then h w (at g []) a b
  joins_then h w a None b = tt

  module _ (room : ℕ) where
    pub all_keep : (k : ℕ) (ps : List (ℕ × ℕ)) (h : Heap K) → Within n h.features h.cells h.slots m.widest → Inside n ps → JoinKeeps h (join_all m room k ps h)
    unfolding join_all
    all_keep zero ps h x i = keeps_none h x
    all_keep (suc k) [] h x i = keeps_none h x
    all_keep (suc k) (p ∷ ps) h x i =
        (elim (join_pair m room p (at h ps)) as (λ s. KeepsIf m n h s → JoinKeeps h (elim s [ Some w ↦ join_all m room k w.pending w.heap | None ↦ None ])) [
          | Some w ↦ λ y.
              joins_then h w y (join_all m room k w.pending w.heap)
              (all_keep k w.pending w.heap (subst (λ (f : ℕ). Within n f w.heap.cells w.heap.slots m.widest) (sym y.features) y.within) y.inside)
          | None ↦ λ y. tt
        ])
        (pair_keeps m n room (at h ps) x i.2 p i.0 i.1)

  -- the loop of a join, from the first pair on
  module _ (features : ℕ) (cells : List (Cell K)) (slots : List (Option ℕ)) where
    abbrev pub Begun : List (Cell K) → List (Option ℕ) → List (ℕ × ℕ) → ℕ → Type 0
    Begun new_cells new_slots pending count = Keeps m n (heap_in 0 features cells slots) (work_in 0 features new_cells new_slots pending count)

    pub begins : (pending : List (ℕ × ℕ)) (p : ℕ × ℕ) → 0 < length pending → p.0 < n → p.1 < n → Within n features cells slots m.widest
        → Begun cells slots (set pending 0 p) 1
    begins pending p l a b x =
        record { used = refl; features = refl; within = x; beyond = (refl, refl); inside = subst (Inside n) (sym (latest_put pending 0 p l)) (a, b, tt) }

    module _ (new_cells : List (Cell K)) (new_slots : List (Option ℕ)) (pending : List (ℕ × ℕ)) (count : ℕ) (before : Begun new_cells new_slots pending count) where
      pub clash_keeps : (h : Heap K) → h ≡ heap_in 0 features new_cells new_slots → Beyond n features cells slots h.cells h.slots
      clash_keeps h e = subst (λ (g : Heap K). Beyond n features cells slots g.cells g.slots) (sym e) before.beyond

      abbrev pair : ℕ × ℕ
      pair = get_or pending (count - 1) (0, 0)

      abbrev taken : Work K
      taken = work_in 0 features new_cells new_slots pending (count - 1)

      pub turn_keeps : (count ≡ 0 → ⊥) → count ≤ length pending → (room : ℕ) (v : Work K) → join_pair m room pair taken ≡ Some v
          → Keeps m n (heap_in 0 features cells slots) v
      turn_keeps some fits room v e =
          let z : 0 < count = omega (arith, some) in
          let i = subst (Inside n) (latest_taken pending count (0, 0) z fits) before.inside in
          keeps_then _ taken v
          (record { used = refl; features = refl; within = before.within; beyond = before.beyond; inside = i.2 })
          (subst (KeepsIf m n taken.heap) e (pair_keeps m n room taken before.within i.2 pair i.0 i.1))
