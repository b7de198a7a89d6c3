use Rattle.compiler.proofs.Nothing.{entry-none}
use Rattle.compiler.proofs.codes.entry.Entry.new.Goals as goal

pub invariant_of-result-clause-code_is : goal.invariant_of-result-clause-code_is
invariant_of-result-clause-code_is g c = entry-none _ _ _ c.in_ok-source.ensures.0 c.in_ok-code.ensures.items c.push_root.ensures.items
