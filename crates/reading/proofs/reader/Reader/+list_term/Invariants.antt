use Rattle.std.proofs.Common.{◌-◌, length}
use Rattle.reading.proofs.reader.Reader.+list_term.Given as goal

-- the bytes left
abbrev pub decreases-list : goal.decreases-list
decreases-list l = length l.self.now.line.now - l.at

abbrev pub decreases-term : goal.decreases-term
decreases-term l = length l.self.now.line.now - l.at
