-- What compiling answers.
use Rattle.std.specs.Prelude.{ℕ, cond, Ok, Err, Result, nat_le}
use Rattle.refusals.specs.declared.Refusal.{Refusal}
use Rattle.refusals.specs.declared.Refusal.TheVariants.{Memory}

-- how many instructions there are, where there is memory for so many
abbrev pub compiled : ℕ → ℕ → Result ℕ Refusal
compiled room n = cond (nat_le n room) (Ok n) (Err Memory)
