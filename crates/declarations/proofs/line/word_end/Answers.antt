use Rattle.std.proofs.Common.{rules}
use Rattle.declarations.proofs.Scanning.{word_past}
use Rattle.declarations.proofs.line.word_end.Goals as goal

pub returns-in-Some : goal.returns-in-Some
returns-in-Some c =
    word_past c.args.line.now c.args.start c.in-Some.rest.now c.first_blank.result _ (search rules) (search rules) c.first_blank.ensures (search rules)
