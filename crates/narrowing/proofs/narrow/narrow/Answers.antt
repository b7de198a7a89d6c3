use Rattle.std.proofs.Common.{◌≡◌, Ok, inl, rules}
use Rattle.std.proofs.lemmas.Result.{err_from_is_err_and}
use Rattle.narrowing.specs.Narrowing.{Unlawful, Split}
use Rattle.narrowing.proofs.Sameness.{only_refusal}
use Rattle.narrowing.proofs.Answering.{wrong_first, wrong_second, both_read, both_fixed}
use Rattle.narrowing.proofs.narrow.narrow.Goals as goal

pub returns-in_err-first : goal.returns-in_err-first
returns-in_err-first g c =
    let p = err_from_is_err_and c.from_residual.result c.from_residual.ensures.1 in
    let h : Unlawful c.args.line.now c.in_err-first.field-0.0 = search rules in
    rw (p.1, p.2)
    (record {
      answer = inl h;
      fixed = only_refusal (g.O.Order.meaning c.args.order.now) (g.O.WrittenOrder.texts c.args.order.now) c.args.line.now _ (inl h);
    })

pub returns-in_err-first-2 : goal.returns-in_err-first-2
returns-in_err-first-2 g c =
    let m = g.O.WrittenOrder.texts c.args.order.now in
    let p = err_from_is_err_and c.from_residual-in_err-first-2.result c.from_residual-in_err-first-2.ensures.1 in
    let s : Split c.args.line.now (Ok (c.in_ok-first.first, c.in_ok-first.second)) = search rules in
    let h = wrong_first m c.args.line.now c.in_ok-first.first c.in_ok-first.second s _ c.in_err-first-2.ensures in
    rw (p.1, p.2) (record { answer = h; fixed = only_refusal (g.O.Order.meaning c.args.order.now) m c.args.line.now _ h })

pub returns-in_err-second : goal.returns-in_err-second
returns-in_err-second g c =
    let m = g.O.WrittenOrder.texts c.args.order.now in
    let p = err_from_is_err_and c.from_residual-in_err-second.result c.from_residual-in_err-second.ensures.1 in
    let s : Split c.args.line.now (Ok (c.in_ok-first.first, c.in_ok-first.second)) = search rules in
    let h = wrong_second m c.args.line.now c.in_ok-first.first c.in_ok-first.second s c.in_ok-first-2.first _ c.in_ok-first-2.ensures c.in_err-second.ensures in
    rw (p.1, p.2) (record { answer = h; fixed = only_refusal (g.O.Order.meaning c.args.order.now) m c.args.line.now _ h })

pub returns : goal.returns
returns g c =
    let m = g.O.WrittenOrder.texts c.args.order.now in
    let o = g.O.Order.meaning c.args.order.now in
    let s : Split c.args.line.now (Ok (c.in_ok-first.first, c.in_ok-first.second)) = search rules in
    let common : c.common-common.result ≡ o.common c.in_ok-first-2.first c.in_ok-second.second = search rules in
    rw common
    (record {
      answer =
          both_read m c.args.line.now c.in_ok-first.first c.in_ok-first.second s o c.in_ok-first-2.first c.in_ok-second.second
          c.in_ok-first-2.ensures c.in_ok-second.ensures;
      fixed =
          both_fixed m c.args.line.now c.in_ok-first.first c.in_ok-first.second s o c.in_ok-first-2.first c.in_ok-second.second
          c.in_ok-first-2.ensures c.in_ok-second.ensures;
    })
