use Rattle.std.proofs.Common.{ℕ, ◌-◌, ◌≤◌, length, Result}
use Rattle.refusals.specs.declared.Refusal.{Refusal}
use Rattle.files.specs.Lines.{Lines}
use Rattle.files.proofs.lines.take_lines.Given as goal

-- what the lines that are left give, all of them give
abbrev pub invariant-loop-turn : goal.invariant-loop-turn
invariant-loop-turn g l =
    (l.at ≤ length l.file)
    × ((r : Result (_ × ℕ) Refusal) → Lines g.S.Section.takes l.file (l.count - l.turn) l.at l.section r → Lines g.S.Section.takes l.file l.count l.place l.initial.section r)
