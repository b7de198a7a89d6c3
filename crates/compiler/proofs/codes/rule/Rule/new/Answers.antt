use Rattle.compiler.proofs.Nothing.{reads-none, writes-none}
use Rattle.compiler.proofs.codes.rule.Rule.new.Goals as goal

pub invariant_of-result-clause-reads_are : goal.invariant_of-result-clause-reads_are
invariant_of-result-clause-reads_are g c = reads-none _ _ c.in_ok-source.ensures.0 c.in_ok-reads.ensures.items

pub invariant_of-result-clause-writes_are : goal.invariant_of-result-clause-writes_are
invariant_of-result-clause-writes_are g c = writes-none _ _ c.in_ok-source.ensures.0 c.in_ok-writes.ensures.items
