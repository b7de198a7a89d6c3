use Rattle.std.proofs.Common.{Some, rules}
use Rattle.std.proofs.lemmas.List.{take_rest}
use Rattle.orders.proofs.Halves.{past_solidus, none_first, none_solidus, none-second, reads_both, stands-both}
use Rattle.orders.specs.Texts.{Back}
use Rattle.orders.proofs.pair.PairWrittenOrder.read.Goals as goal

pub returns-in_err-first : goal.returns-in_err-first
returns-in_err-first g c =
    let m = g.A.WrittenOrder.texts c.args.self.now.first in
    let n = g.B.WrittenOrder.texts c.args.self.now.second in
    let back : Back m c.args.bytes.now c.read.result = search (rules, c.read.ensures.read_back) in
    rw c.from_residual.ensures
    (record { read_back = none_first m n c.args.bytes.now c.read.result c.in_err-first.was back; taken = tt })

pub returns-in_err-rest : goal.returns-in_err-rest
returns-in_err-rest g c =
    let m = g.A.WrittenOrder.texts c.args.self.now.first in
    let n = g.B.WrittenOrder.texts c.args.self.now.second in
    let back : Back m c.args.bytes.now (Some (c.in_ok-first.first, c.in_ok-first.taken)) = search (rules, c.in_ok-first.ensures.read_back) in
    rw c.from_residual-in_err-rest.ensures
    (record {
      read_back =
          none_solidus m n c.args.bytes.now c.in_ok-first.first c.in_ok-first.taken back
          _ (take_rest c.args.bytes.now c.in_ok-first.taken) c.in_err-rest.ensures.cases;
      taken = tt;
    })

pub returns-in_err-second : goal.returns-in_err-second
returns-in_err-second g c =
    let m = g.A.WrittenOrder.texts c.args.self.now.first in
    let n = g.B.WrittenOrder.texts c.args.self.now.second in
    let back : Back m c.args.bytes.now (Some (c.in_ok-first.first, c.in_ok-first.taken)) = search (rules, c.in_ok-first.ensures.read_back) in
    let past = past_solidus c.args.bytes.now _ _ c.in_ok-first.taken (take_rest c.args.bytes.now c.in_ok-first.taken) c.in_ok-rest.ensures.cases.1 in
    rw c.from_residual-in_err-second.ensures
    (record {
      read_back =
          none-second m n c.args.bytes.now c.in_ok-first.first c.in_ok-first.taken back
          _ c.read-2.result past c.in_err-second.was c.read-2.ensures.read_back;
      taken = tt;
    })

pub returns : goal.returns
returns g c =
    let m = g.A.WrittenOrder.texts c.args.self.now.first in
    let n = g.B.WrittenOrder.texts c.args.self.now.second in
    let back : Back m c.args.bytes.now (Some (c.in_ok-first.first, c.in_ok-first.taken)) = search (rules, c.in_ok-first.ensures.read_back) in
    let after = take_rest c.args.bytes.now c.in_ok-first.taken in
    let past = past_solidus c.args.bytes.now _ _ c.in_ok-first.taken after c.in_ok-rest.ensures.cases.1 in
    record {
      read_back =
          reads_both m n c.args.bytes.now c.in_ok-first.first c.in_ok-first.taken back
          _ c.in_ok-second.second c.in_ok-second.more past c.in_ok-second.ensures.read_back;
      taken =
          stands-both m n c.args.bytes.now c.in_ok-first.first c.in_ok-second.second c.in_ok-first.taken c.in_ok-second.more
          _ _ after c.in_ok-rest.ensures.cases.0 c.in_ok-rest.ensures.cases.1 c.in_ok-first.ensures.taken c.in_ok-second.ensures.taken;
    }
