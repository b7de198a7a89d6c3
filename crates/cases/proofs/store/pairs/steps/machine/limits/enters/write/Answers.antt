use Rattle.std.proofs.Common.{arith}
use Rattle.cases.proofs.Setting.{entry_set}
use Rattle.cases.proofs.store.pairs.steps.machine.limits.enters.write.Goals as goal

pub enter-end-requires-clause-code : goal.enter-end-requires-clause-code
enter-end-requires-clause-code g c = entry_set _ _ (omega (arith, c.requires.registers)) _ c.code.ensures
