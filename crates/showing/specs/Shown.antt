-- A kind and a refusal as programs show them: `returned_dd/-500..-100`, and `refused 4 12`.
use Rattle.std.specs.Prelude.{ℕ, cond, List, ◌++◌, length, Some, None, codes, Option, nat_le}
use Rattle.refusals.specs.declared.Refusal.{Refusal}
use Rattle.refusals.specs.Table.{row, printed}

-- a kind's text, or a question mark where it has none or one of over 256 bytes
abbrev pub kind_shown : Option (List ℕ) → List ℕ
kind_shown None = codes "?"
kind_shown (Some t) = cond (nat_le (length t) 256) t (codes "?")

-- the number of a refusal and its values
abbrev pub refusal_shown : Refusal → List ℕ
refusal_shown e = codes "refused " ++ printed (row e)
