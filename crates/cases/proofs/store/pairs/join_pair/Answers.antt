use Rattle.std.proofs.Common.{refl}
use Rattle.cases.specs.Memory.{held}
use Rattle.cases.proofs.OnePair.{pair_same, pair_clash, pair_bound}
use Rattle.cases.proofs.store.pairs.join_pair.Goals as goal

pub returns-then-first-second : goal.returns-then-first-second
returns-then-first-second g c used =
    (c.requires.0, pair_same _ _ _ _ _ (c.ends-first.ensures _) c.if-first-second.true)

pub returns-in-Some : goal.returns-in-Some
returns-in-Some g c used = (
  c.carry.ensures.within,
  pair_bound _ _ _ _ _ (c.ends-first.ensures _) c.if-first-second.false
      _ _ c.kind.ensures c.kind-2.ensures
      c.in-Some.common c.in-Some.ensures
      c.bind.new.cells (c.bind.ensures _)
      (held c.carry.new.slots c.carry.new.pending c.carry.result) c.carry.ensures.held,
)

pub returns-in-None : goal.returns-in-None
returns-in-None g c used = (
  pair_clash _ _ _ _ _ (c.ends-first.ensures _) c.if-first-second.false _ _ c.kind.ensures c.kind-2.ensures c.in-None.ensures,
  λ n. refl,
)
