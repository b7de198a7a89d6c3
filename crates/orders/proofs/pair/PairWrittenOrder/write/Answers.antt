use Rattle.std.proofs.Common.{◌+◌, set, sym, ◌∙◌, inl, inr, rules}
use Rattle.std.proofs.lemmas.List.{take_rest}
use Rattle.orders.proofs.Written.{no_first, no_second, both-written, rest-length, rest-count}
use Rattle.orders.proofs.pair.PairWrittenOrder.write.Goals as goal

pub returns-then-first-eq0 : goal.returns-then-first-eq0
returns-then-first-eq0 g c =
    no_first _ _ _ c.write-first.new.memory _ c.write-first.result
    ((g.A.WrittenOrder.texts c.args.self.now.first).lawful c.args.kind.first) c.write-first.auto.memory c.write-first.ensures
    (elim c.then-first-eq0.either [ inl e ↦ inl e | inr p ↦ inr p.1 ])

pub returns-then-second-eq0 : goal.returns-then-second-eq0
returns-then-second-eq0 g c =
    no_second _ _ _ c.write-first.new.memory _ c.write-second.new.memory _ c.write-first.result c.write-second.result
    ((g.B.WrittenOrder.texts c.args.self.now.second).lawful c.args.kind.second) c.write-first.auto.memory c.write-first.ensures
    (rest-length c.write-first.new.memory c.write-first.result) c.write-second.ensures c.if-second-eq0.true

pub returns : goal.returns
returns g c =
    let written =
    both-written _ _ _ c.write-first.new.memory _ c.write-second.new.memory c.write-first.result _ c.write-second.result
    c.write-first.auto.memory c.write-first.ensures c.if-first-eq0.false c.if-first-memory.false
    (take_rest (set c.write-first.new.memory c.write-first.result 47) (c.write-first.result + 1))
    (rest-count c.write-first.new.memory c.write-first.result)
    (c.write-second.auto.memory ∙ sym (rest-count c.write-first.new.memory c.write-first.result)) c.write-second.ensures c.if-second-eq0.false in
    search rules
