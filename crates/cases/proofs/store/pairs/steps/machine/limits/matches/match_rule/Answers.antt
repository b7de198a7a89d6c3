use Rattle.std.proofs.Common.{refl, arith}
use Rattle.compiler.specs.Rules.{statements_of, features_of}
use Rattle.compiler.proofs.Onward.{some_variable}
use Rattle.cases.proofs.JoinOf.{whole_cells}
use Rattle.cases.proofs.Whole.{spare_whole}
use Rattle.cases.proofs.TermOf.{leaves_refused}
use Rattle.cases.proofs.Beginning.{match_told, law_matched}
use Rattle.cases.proofs.Leaving.{rule_left, rule_back}
use Rattle.cases.proofs.store.pairs.steps.machine.limits.matches.match_rule.Goals as goal

pub to_match-requires : goal.to_match-requires
to_match-requires g c = omega (arith, c.variables.ensures.value, some_variable (statements_of c.args.rule.now))

pub write_anew-requires-clause-spare : goal.write_anew-requires-clause-spare
write_anew-requires-clause-spare g c =
    let m = g.O.Order.meaning c.args.order.now in
    let (fits, is) = match_told m _ c.args.case.now (statements_of c.args.rule.now) c.args.places.now c.args.cells.now c.args.slots.now refl refl _ _ c.statements.ensures c.variables.ensures.value _ c.args.cell c.in-Ok.ensures.answer in
    spare_whole c.args.case.now c.args.cells.now c.args.slots.now c.args.pending.now c.args.spare_cells.now c.args.spare_slots.now fits.enough _ fits.sizes

pub write_anew-requires-clause-used : goal.write_anew-requires-clause-used
write_anew-requires-clause-used g c =
    let m = g.O.Order.meaning c.args.order.now in
    let (fits, is) = match_told m _ c.args.case.now (statements_of c.args.rule.now) c.args.places.now c.args.cells.now c.args.slots.now refl refl _ _ c.statements.ensures c.variables.ensures.value _ c.args.cell c.in-Ok.ensures.answer in
    omega (arith, fits.room, some_variable (statements_of c.args.rule.now), whole_cells c.args.case.now c.args.cells.now c.args.slots.now _ refl refl fits.enough)

pub returns-in-Ok-write_anew-clause-kept : goal.returns-in-Ok-write_anew-clause-kept
returns-in-Ok-write_anew-clause-kept g c =
    let m = g.O.Order.meaning c.args.order.now in
    let (fits, is) = match_told m _ c.args.case.now (statements_of c.args.rule.now) c.args.places.now c.args.cells.now c.args.slots.now refl refl _ _ c.statements.ensures c.variables.ensures.value _ c.args.cell c.in-Ok.ensures.answer in
    (rule_left m _ c.args.case.now (statements_of c.args.rule.now) c.args.places.now c.args.cells.now c.args.slots.now refl refl _ c.in-Ok.size fits c.write_anew.new.cells c.write_anew.new.slots c.write_anew.new.places c.in-Ok-write_anew.used c.write_anew.auto.cells c.write_anew.auto.slots c.accept.new.case c.accept.ensures.0 c.args.cell _ is c.in-Ok-write_anew.ensures).kept

pub returns-in-Ok-write_anew-clause-law : goal.returns-in-Ok-write_anew-clause-law
returns-in-Ok-write_anew-clause-law g c =
    let m = g.O.Order.meaning c.args.order.now in
    let (fits, is) = match_told m _ c.args.case.now (statements_of c.args.rule.now) c.args.places.now c.args.cells.now c.args.slots.now refl refl _ _ c.statements.ensures c.variables.ensures.value _ c.args.cell c.in-Ok.ensures.answer in
    let left = rule_left m _ c.args.case.now (statements_of c.args.rule.now) c.args.places.now c.args.cells.now c.args.slots.now refl refl _ c.in-Ok.size fits c.write_anew.new.cells c.write_anew.new.slots c.write_anew.new.places c.in-Ok-write_anew.used c.write_anew.auto.cells c.write_anew.auto.slots c.accept.new.case c.accept.ensures.0 c.args.cell _ is c.in-Ok-write_anew.ensures in
    law_matched m _ c.args.case.now _ _ c.args.cells.now c.args.slots.now (features_of c.args.rule.now, c.args.rule.now.source.lawful) c.args.cell _ left.heap

pub returns-in-Err-write_anew-clause-kept : goal.returns-in-Err-write_anew-clause-kept
returns-in-Err-write_anew-clause-kept g c =
    let m = g.O.Order.meaning c.args.order.now in
    let (fits, is) = match_told m _ c.args.case.now (statements_of c.args.rule.now) c.args.places.now c.args.cells.now c.args.slots.now refl refl _ _ c.statements.ensures c.variables.ensures.value _ c.args.cell c.in-Ok.ensures.answer in
    (rule_back m _ c.args.case.now (statements_of c.args.rule.now) c.args.places.now c.args.cells.now c.args.slots.now refl refl _ c.in-Ok.size fits c.write_anew.new.cells c.write_anew.new.slots c.write_anew.new.places c.args.cell _ _ is c.in-Err-write_anew.ensures).kept

pub returns-in-Err-write_anew-clause-law : goal.returns-in-Err-write_anew-clause-law
returns-in-Err-write_anew-clause-law g c =
    let m = g.O.Order.meaning c.args.order.now in
    let (fits, is) = match_told m _ c.args.case.now (statements_of c.args.rule.now) c.args.places.now c.args.cells.now c.args.slots.now refl refl _ _ c.statements.ensures c.variables.ensures.value _ c.args.cell c.in-Ok.ensures.answer in
    let left = rule_back m _ c.args.case.now (statements_of c.args.rule.now) c.args.places.now c.args.cells.now c.args.slots.now refl refl _ c.in-Ok.size fits c.write_anew.new.cells c.write_anew.new.slots c.write_anew.new.places c.args.cell _ _ is c.in-Err-write_anew.ensures in
    law_matched m _ c.args.case.now _ _ c.args.cells.now c.args.slots.now (features_of c.args.rule.now, c.args.rule.now.source.lawful) c.args.cell _ left.heap

pub returns-in-Err-clause-kept : goal.returns-in-Err-clause-kept
returns-in-Err-clause-kept g c =
    let m = g.O.Order.meaning c.args.order.now in
    let is = match_told m _ c.args.case.now (statements_of c.args.rule.now) c.args.places.now c.args.cells.now c.args.slots.now refl refl _ _ c.statements.ensures c.variables.ensures.value _ c.args.cell c.in-Err.ensures.answer in
    (leaves_refused c.args.case.now c.args.cells.now c.args.slots.now c.args.places.now _ _ is).kept

pub returns-in-Err-clause-law : goal.returns-in-Err-clause-law
returns-in-Err-clause-law g c =
    let m = g.O.Order.meaning c.args.order.now in
    let is = match_told m _ c.args.case.now (statements_of c.args.rule.now) c.args.places.now c.args.cells.now c.args.slots.now refl refl _ _ c.statements.ensures c.variables.ensures.value _ c.args.cell c.in-Err.ensures.answer in
    law_matched m _ c.args.case.now _ _ c.args.cells.now c.args.slots.now (features_of c.args.rule.now, c.args.rule.now.source.lawful) c.args.cell _ (leaves_refused c.args.case.now c.args.cells.now c.args.slots.now c.args.places.now _ _ is).heap
