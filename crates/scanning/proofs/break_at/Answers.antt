use Rattle.std.proofs.Common.{Some, rules}
use Rattle.scanning.proofs.Runs.{runs_none, runs-more, runs-all, breaks-here, breaks-end}
use Rattle.scanning.proofs.break_at.Goals as goal

pub loop-i-init : goal.loop-i-init
loop-i-init g c = search (rules, runs_none)

pub returns-in-None : goal.returns-in-None
returns-in-None g c = search (rules, breaks-here g.met.P.LinePart.laws)

pub loop-i-preserved : goal.loop-i-preserved
loop-i-preserved g c =
    runs-more g.P.LinePart.part_after g.P.LinePart.first_part c.loop-i.part (Some c.in-Some.more) c.args.line.now c.loop-i.i c.loop-i-test.true
    c.loop-i.invariant (search rules)

pub returns-else-may_end : goal.returns-else-may_end
returns-else-may_end g c = search (rules, breaks-end g.met.P.LinePart.laws, runs-all)
