use Rattle.reading.proofs.Noting.{part_cut}
use Rattle.reading.proofs.span.bytes_of.Goals as goal

pub returns : goal.returns
returns c = part_cut c.args.line.now c.args.span c.min-start.result c.min-len.result c.min-start.ensures c.min-len.ensures
