-- A line that declares a kind, byte by byte: what may come next.
use Rattle.std.specs.Prelude.{ℕ, cond, Bool, true, false, Some, None, Option, ◌==◌}
use Rattle.declarations.specs.declared.line.Part.{Part}
use Rattle.declarations.specs.declared.line.Part.TheVariants.{Start, Name, Blank, Wider}
use Rattle.declarations.specs.Names.{letter, name_byte}

abbrev pub next_part : Part → ℕ → Option Part
next_part Start b = cond (letter b) (Some Name) None
next_part Name b = cond (name_byte b) (Some Name) (cond (b == 32) (Some Blank) None)
next_part Blank b = cond (letter b) (Some Wider) None
next_part Wider b = cond (name_byte b) (Some Wider) (cond (b == 32) (Some Blank) None)

-- whether a lawful line may end here
abbrev pub ends : Part → Bool
ends Start = false
ends Name = false
ends Blank = false
ends Wider = true
