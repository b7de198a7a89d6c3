use Rattle.std.proofs.Common.{arith}
use Rattle.std.proofs.lemmas.Result.{IfErr-at_err}
use Rattle.files.specs.Model.{Near}
use Rattle.files.proofs.lines.judge.Goals as goal

pub moved-requires : goal.moved-requires
moved-requires c = (c.args.length, IfErr-at_err (Near c.args.length) c.in-Err.is c.requires.near, omega (arith, c.requires.within))
