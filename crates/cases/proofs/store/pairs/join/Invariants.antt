use Rattle.std.proofs.Common.{◌≡◌, ℕ, ◌-◌, ◌<◌, ◌≤◌, [], ◌∷◌}
use Rattle.joining.specs.Joining.{join_all}
use Rattle.cases.specs.Memory.{latest, heap_in}
use Rattle.cases.specs.Within.{Within}
use Rattle.cases.proofs.Keeping.{Begun}
use Rattle.cases.proofs.store.pairs.join.Given as goal

abbrev pub invariant-loop-turn : goal.invariant-loop-turn
invariant-loop-turn g l = record {
  within : l.count ≤ l.room;
  left : (used : ℕ) → join_all (g.O.Order.meaning l.order) l.room (l.room - l.turn) (latest l.pending l.count) (heap_in used l.features l.cells l.slots)
      ≡ join_all (g.O.Order.meaning l.order) l.room l.room ((l.first, l.second) ∷ []) (heap_in used l.features l.fn.cells l.fn.slots);
  begun : (n : ℕ) → l.first < n → l.second < n → Within n l.features l.fn.cells l.fn.slots (g.O.Order.meaning l.order).widest
      → Begun (g.O.Order.meaning l.order) n l.features l.fn.cells l.fn.slots l.cells l.slots l.pending l.count;
}
