use Rattle.std.proofs.Common.{refl}
use Rattle.compiler.specs.Entries.{statements_of, features_of}
use Rattle.cases.proofs.TermOf.{leaves_refused}
use Rattle.cases.proofs.Beginning.{enter_told, law_entered}
use Rattle.cases.proofs.Leaving.{entry_left}
use Rattle.cases.proofs.store.pairs.steps.machine.limits.enters.enter.Goals as goal

pub returns-in-Ok-clause-kept : goal.returns-in-Ok-clause-kept
returns-in-Ok-clause-kept g c =
    let m = g.O.Order.meaning c.args.order.now in
    let (fits, is) = enter_told m _ c.args.case.now (statements_of c.args.entry.now) c.args.places.now c.args.cells.now c.args.slots.now refl refl _ _ c.statements.ensures c.variables.ensures.value _ c.in-Ok.ensures in
    (entry_left m _ c.args.case.now (statements_of c.args.entry.now) c.args.places.now c.args.cells.now c.args.slots.now refl refl _ c.in-Ok.size fits c.write_anew-used.new.cells c.write_anew-used.new.slots c.write_anew-used.new.places c.write_anew-used.result c.write_anew-used.auto.cells c.write_anew-used.auto.slots c.accept.new.case c.accept.ensures.0 _ is c.write_anew-used.ensures).kept

pub returns-in-Ok-clause-law : goal.returns-in-Ok-clause-law
returns-in-Ok-clause-law g c =
    let m = g.O.Order.meaning c.args.order.now in
    let (fits, is) = enter_told m _ c.args.case.now (statements_of c.args.entry.now) c.args.places.now c.args.cells.now c.args.slots.now refl refl _ _ c.statements.ensures c.variables.ensures.value _ c.in-Ok.ensures in
    let left = entry_left m _ c.args.case.now (statements_of c.args.entry.now) c.args.places.now c.args.cells.now c.args.slots.now refl refl _ c.in-Ok.size fits c.write_anew-used.new.cells c.write_anew-used.new.slots c.write_anew-used.new.places c.write_anew-used.result c.write_anew-used.auto.cells c.write_anew-used.auto.slots c.accept.new.case c.accept.ensures.0 _ is c.write_anew-used.ensures in
    law_entered m _ c.args.case.now _ _ c.args.cells.now c.args.slots.now (features_of c.args.entry.now, c.args.entry.now.source.lawful) _ left.heap

pub returns-in-Err-clause-kept : goal.returns-in-Err-clause-kept
returns-in-Err-clause-kept g c =
    let m = g.O.Order.meaning c.args.order.now in
    let is = enter_told m _ c.args.case.now (statements_of c.args.entry.now) c.args.places.now c.args.cells.now c.args.slots.now refl refl _ _ c.statements.ensures c.variables.ensures.value _ c.in-Err.ensures in
    (leaves_refused c.args.case.now c.args.cells.now c.args.slots.now c.args.places.now _ _ is).kept

pub returns-in-Err-clause-law : goal.returns-in-Err-clause-law
returns-in-Err-clause-law g c =
    let m = g.O.Order.meaning c.args.order.now in
    let is = enter_told m _ c.args.case.now (statements_of c.args.entry.now) c.args.places.now c.args.cells.now c.args.slots.now refl refl _ _ c.statements.ensures c.variables.ensures.value _ c.in-Err.ensures in
    law_entered m _ c.args.case.now _ _ c.args.cells.now c.args.slots.now (features_of c.args.entry.now, c.args.entry.now.source.lawful) _ (leaves_refused c.args.case.now c.args.cells.now c.args.slots.now c.args.places.now _ _ is).heap
