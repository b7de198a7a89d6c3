use Rattle.std.proofs.Common.{sym, ◌∙◌}
use Rattle.reading.proofs.Featuring.{no_equals, no_greater, whole_arrow}
use Rattle.reading.proofs.reader.Reader.arrow.Goals as goal

pub returns-in-Greater : goal.returns-in-Greater
returns-in-Greater c =
    λ n d at stop. whole_arrow c.args.self.now.line.now c.args.at n d at stop (sym c.mark.ensures ∙ c.in-Equals.is) (sym c.mark-in-Equals.ensures ∙ c.in-Greater.is)

pub returns-in_default-mark : goal.returns-in_default-mark
returns-in_default-mark c =
    λ n d at stop.
    no_greater c.args.self.now.line.now c.args.at n d at stop (sym c.mark.ensures ∙ c.in-Equals.is) (λ e. c.in_default-mark.not-Greater (c.mark-in-Equals.ensures ∙ e))

pub returns-in_default : goal.returns-in_default
returns-in_default c =
    λ n d at stop. no_equals c.args.self.now.line.now c.args.at n d at stop c.requires (λ e. c.in_default.not-Equals (c.mark.ensures ∙ e))
