-- A kind as it lies in memory, and what is declared by it.
use Rattle.std.specs.Prelude.{ℕ, cond, List, Option, position, ◌==◌, bit_and, bit_or}
use Rattle.std.specs.Str.{bytes_eq}
use Rattle.declarations.specs.Declarations.{Declaration}
use Rattle.declarations.specs.Held.{name_bytes}
use Rattle.declarations.specs.Rows.{members}
use Rattle.kinds.specs.declared.table.Kind.{Kind}

-- its name, and as wider kinds the numbers whose bits are set
abbrev pub declaration : Kind → Declaration
declaration k = record { name = name_bytes k.name; wider = members 64 k.wider }

-- the first kind with this name, as the code searches for it
unfoldable pub first_named : List ℕ → List Kind → Option ℕ
first_named w kinds = position (λ k. bytes_eq w (name_bytes k.name)) kinds

-- an earlier kind once this one is declared: its row has the bit of this one if one of the wider kinds is in it
abbrev pub with_new : Kind → Kind → Kind
with_new k e =
    record { name = e.name; wider = e.wider; row = cond (bit_and e.row k.wider == 0) e.row (bit_or e.row k.row) }
