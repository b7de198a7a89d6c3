use Rattle.std.proofs.Common.{Ok, Err}
use Rattle.std.proofs.lemmas.Result.{err_from_is_err_and}
use Rattle.features.specs.Model.{feature_names}
use Rattle.files.specs.Reads.{said_terms}
use Rattle.files.proofs.Booking.{rules_refused, end_refused, all_read, with_made}
use Rattle.files.proofs.lines.reads.read_lists.Goals as goal

pub returns-in_err-rules : goal.returns-in_err-rules
returns-in_err-rules g c =
    let p = err_from_is_err_and c.from_residual-in_err-rules.result c.from_residual-in_err-rules.ensures.1 in
    let file = c.args.file.now in
    let l = c.args.list in
    let texts : g.row.O.Denot → _ = λ o. g.O.WrittenOrder.texts o in
    let fs = feature_names c.in_ok-features.features in
    let es = said_terms c.in_ok-entries.entries in
    let he = with_made texts c.of_list-order.result (g.O.OfList.made l) c.of_list-order.ensures fs file c.in_ok-features.entries_at (Ok (es, c.in_ok-entries.rules_at)) c.in_ok-entries.ensures.answer in
    let hu = with_made texts c.of_list-order.result (g.O.OfList.made l) c.of_list-order.ensures fs file c.in_ok-entries.rules_at (Err c.in_err-rules.field-0.0) c.in_err-rules.ensures.answer in
    rw (p.1, p.2)
    (rules_refused (λ l. texts (g.O.OfList.made l)) file c.args.place l fs c.in_ok-features.entries_at c.in_ok-features.ensures.answer es c.in_ok-entries.rules_at he
    c.in_err-rules.field-0.0 hu)

pub returns-in_err-check_end : goal.returns-in_err-check_end
returns-in_err-check_end g c =
    let p = err_from_is_err_and c.from_residual-in_err-check_end.result c.from_residual-in_err-check_end.ensures.1 in
    let file = c.args.file.now in
    let l = c.args.list in
    let texts : g.row.O.Denot → _ = λ o. g.O.WrittenOrder.texts o in
    let fs = feature_names c.in_ok-features.features in
    let es = said_terms c.in_ok-entries.entries in
    let us = said_terms c.in_ok-rules.rules in
    let he = with_made texts c.of_list-order.result (g.O.OfList.made l) c.of_list-order.ensures fs file c.in_ok-features.entries_at (Ok (es, c.in_ok-entries.rules_at)) c.in_ok-entries.ensures.answer in
    let hu = with_made texts c.of_list-order.result (g.O.OfList.made l) c.of_list-order.ensures fs file c.in_ok-entries.rules_at (Ok (us, c.in_ok-rules.end)) c.in_ok-rules.ensures.answer in
    rw (p.1, p.2)
    (end_refused (λ l. texts (g.O.OfList.made l)) file c.args.place l fs c.in_ok-features.entries_at c.in_ok-features.ensures.answer es c.in_ok-entries.rules_at he
    us c.in_ok-rules.end hu c.in_err-check_end.field-0.0 c.in_err-check_end.ensures)

pub returns : goal.returns
returns g c =
    let file = c.args.file.now in
    let l = c.args.list in
    let texts : g.row.O.Denot → _ = λ o. g.O.WrittenOrder.texts o in
    let fs = feature_names c.in_ok-features.features in
    let es = said_terms c.in_ok-entries.entries in
    let us = said_terms c.in_ok-rules.rules in
    let he = with_made texts c.of_list-order.result (g.O.OfList.made l) c.of_list-order.ensures fs file c.in_ok-features.entries_at (Ok (es, c.in_ok-entries.rules_at)) c.in_ok-entries.ensures.answer in
    let hu = with_made texts c.of_list-order.result (g.O.OfList.made l) c.of_list-order.ensures fs file c.in_ok-entries.rules_at (Ok (us, c.in_ok-rules.end)) c.in_ok-rules.ensures.answer in (
      c.of_list-order.ensures,
      all_read (λ l. texts (g.O.OfList.made l)) file c.args.place l fs c.in_ok-features.entries_at c.in_ok-features.ensures.answer es c.in_ok-entries.rules_at he
          us c.in_ok-rules.end hu c.in_ok-check_end.ensures,
    )
