use Rattle.std.proofs.Common.{arith}
use Rattle.compiler.specs.Rules.{statements_of}
use Rattle.compiler.proofs.Onward.{some_variable}
use Rattle.cases.proofs.Setting.{reads_set, writes_set}
use Rattle.cases.proofs.CodesOf.{rule_codes, rule_room}
use Rattle.cases.proofs.Terms.{rule_run, told}
use Rattle.cases.proofs.store.pairs.steps.machine.limits.matches.write.Goals as goal

pub root-begin-requires : goal.root-begin-requires
root-begin-requires g c = omega (arith, c.requires.registers, some_variable (statements_of c.args.rule.now))

pub run_or_restore-outcome-requires-clause-reads : goal.run_or_restore-outcome-requires-clause-reads
run_or_restore-outcome-requires-clause-reads g c = reads_set (statements_of c.args.rule.now) _ (omega (arith, c.requires.registers, c.root-begin.auto.registers)) _ c.reads.ensures

pub run_or_restore-outcome-requires-clause-writes : goal.run_or_restore-outcome-requires-clause-writes
run_or_restore-outcome-requires-clause-writes g c = writes_set (statements_of c.args.rule.now) _ (omega (arith, c.requires.registers, c.root-begin.auto.registers)) _ c.writes.ensures

pub overflow_sub-most : goal.overflow_sub-most
overflow_sub-most g c = omega (arith, c.requires.registers, some_variable (statements_of c.args.rule.now))

pub run_or_restore-outcome-requires-clause-codes : goal.run_or_restore-outcome-requires-clause-codes
run_or_restore-outcome-requires-clause-codes g c = rule_codes (statements_of c.args.rule.now) _ _ c.reads.ensures c.writes.ensures c.args.features c.requires.features

pub run_or_restore-outcome-requires-clause-most : goal.run_or_restore-outcome-requires-clause-most
run_or_restore-outcome-requires-clause-most g c =
    rule_room (statements_of c.args.rule.now) _ _ c.reads.ensures c.writes.ensures _ c.args.used _ c.root-begin.ensures.begins
    (omega (arith, c.requires.registers, some_variable (statements_of c.args.rule.now)))

pub returns : goal.returns
returns g c =
    let m = g.O.Order.meaning c.args.order.now in
    let is = rule_run m (statements_of c.args.rule.now) _ _ _ c.kinds.ensures c.reads.ensures c.writes.ensures c.args.used c.args.features c.args.cells.now c.args.slots.now c.root-begin.new.registers c.args.cell _ c.root-begin.ensures.begins c.root-begin.ensures.root in
    told c.args.features _ _ _ _ _ _ _ _ c.run_or_restore-outcome.result _ is c.run_or_restore-outcome.ensures.answer c.run_or_restore-outcome.ensures.back _ c.tell.ensures
