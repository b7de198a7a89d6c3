-- The loop of a join: what is still to be joined gives the outcome of the whole.
use Rattle.std.proofs.Common.{◌≡◌, ℕ, ◌+◌, ◌-◌, ◌<◌, ◌≤◌, [], ◌∷◌, List, length, get_or, set, Some, None, Option, sym, ap, ◌∙◌, arith}
use Rattle.orders.specs.Meaning.{Meaning}
use Rattle.joining.specs.declared.cell.Cell.{Cell}
use Rattle.joining.specs.Heap.{Heap}
use Rattle.joining.specs.Joining.{Work, join_pair, join_all}
use Rattle.cases.specs.Memory.{latest, heap_in, work_in}
use Rattle.cases.proofs.Pending.{latest_put, latest_taken}
use Rattle.cases.proofs.OnePair.{all_none, all_over, all_stepped, all_clash}

pub turn_first : {K : Type 0} (m : Meaning K) (room : ℕ) (h : Heap K) (pending : List (ℕ × ℕ)) (p : ℕ × ℕ) → 0 < length pending
    → join_all m room (room - 0) (latest (set pending 0 p) 1) h ≡ join_all m room room (p ∷ []) h
turn_first m room h pending p l =
    let e : room - 0 ≡ room = omega arith in
    ap (λ (n : ℕ). join_all m room n (latest (set pending 0 p) 1) h) e
    ∙ ap (λ (ps : List (ℕ × ℕ)). join_all m room room ps h) (latest_put pending 0 p l)

module _ {K : Type 0} (m : Meaning K) (room used features : ℕ) (cells : List (Cell K)) (slots : List (Option ℕ)) (pending : List (ℕ × ℕ)) (count turn : ℕ) (outcome : Option (Heap K))
    (left : join_all m room (room - turn) (latest pending count) (heap_in used features cells slots) ≡ outcome) where
  pub turn_none : count ≡ 0 → outcome ≡ Some (heap_in used features cells slots)
  turn_none e =
      sym left
      ∙ ap (λ (n : ℕ). join_all m room (room - turn) (latest pending n) (heap_in used features cells slots)) e
      ∙ all_none m room (room - turn) _

  pub turn_last : room ≤ turn → outcome ≡ Some (heap_in used features cells slots)
  turn_last l =
      let e : room - turn ≡ 0 = omega arith in
      sym left ∙ all_over m room _ _ _ e

  module _ (some : count ≡ 0 → ⊥) (fits : count ≤ length pending) (l : turn < room) where
    taken : outcome ≡ join_all m room (room - turn) (get_or pending (count - 1) (0, 0) ∷ latest pending (count - 1)) (heap_in used features cells slots)
    taken =
        let z : 0 < count = omega (arith, some) in
        sym left
        ∙ ap (λ (ps : List (ℕ × ℕ)). join_all m room (room - turn) ps (heap_in used features cells slots)) (latest_taken pending count (0, 0) z fits)

    pub turn_more : (v : Work K) → join_pair m room (get_or pending (count - 1) (0, 0)) (work_in used features cells slots pending (count - 1)) ≡ Some v
        → join_all m room (room - (turn + 1)) v.pending v.heap ≡ outcome
    turn_more v e = sym (taken ∙ all_stepped m room room turn _ (work_in used features cells slots pending (count - 1)) l v e)

    pub turn_clash : join_pair m room (get_or pending (count - 1) (0, 0)) (work_in used features cells slots pending (count - 1)) ≡ None → outcome ≡ None
    turn_clash e = taken ∙ all_clash m room room turn _ (work_in used features cells slots pending (count - 1)) l e
