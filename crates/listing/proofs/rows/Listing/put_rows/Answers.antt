use Rattle.std.proofs.Common.{rules, vec_items, arith}
use Rattle.features.specs.Model.{feature_names}
use Rattle.terms.specs.Terms.{said_of}
use Rattle.listing.proofs.Rowing.{row_more, rows_first, row_last}
use Rattle.listing.proofs.rows.Listing.put_rows.Goals as goal

pub loop-number-init : goal.loop-number-init
loop-number-init g c = search (rules, rows_first)

pub loop-number-preserved : goal.loop-number-preserved
loop-number-preserved g c =
    row_more (g.O.WrittenOrder.texts c.args.self.now.order.now) (feature_names c.args.self.now.features.now) (said_of c.args.term.now)
    c.loop-number.number c.unwrap.result c.statement.result (vec_items c.loop-number.text) (vec_items c.put_row.new.text) _
    c.loop-number.invariant c.statement.ensures c.unwrap.ensures c.in_ok-put_row.ensures

pub returns-in_ok-put_row : goal.returns-in_ok-put_row
returns-in_ok-put_row g c =
    row_last (g.O.WrittenOrder.texts c.args.self.now.order.now) (feature_names c.args.self.now.features.now) (said_of c.args.term.now)
    c.loop-number.number c.unwrap.result c.statement.result (vec_items c.loop-number.text) (vec_items c.put_row.new.text) _
    c.loop-number.invariant c.statement.ensures c.unwrap.ensures c.in_ok-put_row.ensures (omega arith)
