use Rattle.std.proofs.Common.{◌+◌, drop, sym, ap, ◌∙◌, arith}
use Rattle.grammar.specs.Lawful.{statements}
use Rattle.compiler.specs.Passing.{written_by_rule}
use Rattle.compiler.proofs.Counting.{written_less, written_more, written_last}
use Rattle.compiler.proofs.codes.rule.compiling.written.Goals as goal
use Rattle.compiler.proofs.codes.rule.compiling.written.Goals.{then-not-is_root_kind, else-not-is_root_kind}

pub loop-one-preserved : goal.loop-one-preserved
loop-one-preserved g c =
    let said = c.args.said.now in
    let i = c.loop-one.one-index in
    let u = c.one-item.result in
    let n = c.loop-one.count in
    let (was, few) = c.loop-one.invariant in
    elim c.if-not-is_root_kind.branch [
      | then-not-is_root_kind w ↦
          let more = written_more said i u c.loop-one-test.true c.one-item.is n _ (sym w.if-not-is_root_kind.ensures) was in (
            ap (λ m. m + written_by_rule (statements (drop (i + 1) said))) w.count-is ∙ more,
            omega (arith, w.count-is, few),
          )
      | else-not-is_root_kind w ↦
          let less = written_less said i u c.loop-one-test.true c.one-item.is n _ (sym w.if-not-is_root_kind.ensures) was in (
            ap (λ m. m + written_by_rule (statements (drop (i + 1) said))) w.count-is ∙ less,
            omega (arith, w.count-is, few),
          )
    ]

pub returns-clause-value : goal.returns-clause-value
returns-clause-value g c = written_last _ c.loop-one.one-index _ c.loop-one-test.false c.loop-one.invariant.0
