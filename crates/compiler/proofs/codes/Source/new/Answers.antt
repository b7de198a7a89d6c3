use Rattle.compiler.proofs.Nothing.{lawful-none, kinds-none, depths-none}
use Rattle.compiler.proofs.codes.Source.new.Goals as goal

pub invariant_of-result-clause-lawful : goal.invariant_of-result-clause-lawful
invariant_of-result-clause-lawful g c = lawful-none _ _ c.in_ok-statements.ensures.items

pub invariant_of-result-clause-kinds_are : goal.invariant_of-result-clause-kinds_are
invariant_of-result-clause-kinds_are g c = kinds-none _ _ c.in_ok-statements.ensures.items c.in_ok-kinds.ensures.items

pub invariant_of-result-clause-counted : goal.invariant_of-result-clause-counted
invariant_of-result-clause-counted g c = depths-none _ c.in_ok-statements.ensures.items
