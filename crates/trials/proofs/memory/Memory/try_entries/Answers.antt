use Rattle.std.proofs.Common.{◌+◌, map, length, vec_items, vec_len, vec_capacity, arith, ◌∙◌}
use Rattle.std.proofs.lemmas.List.{length-map}
use Rattle.compiler.specs.Rules.{statements_of}
use Rattle.trials.proofs.Entries.{entries_more, entries_last, room_left}
use Rattle.trials.proofs.memory.Memory.try_entries.Goals as goal

pub loop-index-preserved : goal.loop-index-preserved
loop-index-preserved g c =
    let m = g.O.Order.meaning c.args.order.now in
    let (entry, room, same, so_far) = c.loop-index.invariant in (
      omega (arith, c.refill.ensures.room, entry),
      room_left m c.args.self.now.features (map statements_of c.args.rules.now) c.args.entries.now c.loop-index.index _ c.loop-index.self.features (c.loop-index.index + 1) (length c.args.rules.now)
          (vec_len c.loop-index.trials) (vec_len c.try_entry.new.trials) (vec_capacity c.loop-index.trials) (vec_capacity c.try_entry.new.trials)
          (vec_items c.loop-index.trials) (vec_items c.try_entry.new.trials) (omega arith) c.loop-index.trials.ok.0 c.try_entry.new.trials.ok.0 c.try_entry.ensures.trials
          (length-map c.args.rules.now statements_of) c.try_entry.ensures.capacity room,
      c.try_entry.ensures.features ∙ same,
      entries_more (g.O.Order.meaning c.args.order.now) c.args.self.now.features (map statements_of c.args.rules.now) c.args.entries.now c.loop-index.index
          c.index-entries-index.result _ c.loop-index.self.features (vec_items c.args.trials.now) (vec_items c.loop-index.trials) (vec_items c.try_entry.new.trials)
          (omega arith) c.index-entries-index.is c.refill.ensures.statements same c.try_entry.ensures.trials so_far,
    )

pub returns : goal.returns
returns g c =
    entries_last (g.O.Order.meaning c.args.order.now) c.args.self.now.features (map statements_of c.args.rules.now) c.args.entries.now c.loop-index.index
    (vec_items c.args.trials.now) (vec_items c.loop-index.trials) (omega arith) c.loop-index.invariant.3
