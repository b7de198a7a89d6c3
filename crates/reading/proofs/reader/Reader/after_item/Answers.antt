use Rattle.std.proofs.Common.{sym, ◌∙◌}
use Rattle.reading.proofs.Failing.{next_item, list_end, no_item}
use Rattle.reading.proofs.reader.Reader.after_item.Goals as goal

pub returns-in-Comma : goal.returns-in-Comma
returns-in-Comma c = λ d g. next_item c.args.self.now.line.now c.args.at d g (sym c.mark.ensures ∙ c.in-Comma.is)

pub returns-in-Close : goal.returns-in-Close
returns-in-Close c = λ d g. list_end c.args.self.now.line.now c.args.at d g (sym c.mark.ensures ∙ c.in-Close.is)

pub returns-in_default : goal.returns-in_default
returns-in_default c =
    λ d g. no_item c.args.self.now.line.now c.args.at d g c.requires (λ e. c.in_default.not-Comma (c.mark.ensures ∙ e)) (λ e. c.in_default.not-Close (c.mark.ensures ∙ e))
