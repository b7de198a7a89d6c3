-- A line with two kind texts, byte by byte: what may come next.
use Rattle.std.specs.Prelude.{ℕ, cond, Bool, true, false, Some, None, Option, ◌==◌}
use Rattle.orders.specs.Texts.{text_byte}
use Rattle.narrowing.specs.declared.line.Part.{Part}
use Rattle.narrowing.specs.declared.line.Part.TheVariants.{Start, First, Blank, Second}

abbrev pub next_part : Part → ℕ → Option Part
next_part Start b = cond (text_byte b) (Some First) None
next_part First b = cond (text_byte b) (Some First) (cond (b == 32) (Some Blank) None)
next_part Blank b = cond (text_byte b) (Some Second) None
next_part Second b = cond (text_byte b) (Some Second) None

-- whether a lawful line may end here
abbrev pub ends : Part → Bool
ends Start = false
ends First = false
ends Blank = false
ends Second = true
