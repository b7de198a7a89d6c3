-- What notes in memory hold, for the line that they are about.
use Rattle.std.specs.Prelude.{◌≡◌, ℕ, List, [], ◌∷◌, ◌++◌, map, length, take, drop, Option, position}
use Rattle.std.specs.Str.{bytes_eq}
use Rattle.grammar.specs.declared.statement.Statement.{Statement}
use Rattle.grammar.specs.declared.statement.Statement.TheVariants.{Kind, Feature}
use Rattle.grammar.specs.declared.statement.Said.{Said}
use Rattle.declarations.specs.Names.{listed}
use Rattle.grammar.specs.Told.{Told, index}
use Rattle.reading.specs.declared.span.Span.{Span}
use Rattle.reading.specs.declared.notes.Notes.{Notes}
use Rattle.reading.specs.declared.reader.Named as found

abbrev pub part : List ℕ → Span → List ℕ
part line s = take s.len (drop s.place line)

-- a statement with the bytes of its kind text
abbrev pub statement_in : List ℕ → Statement Span → Statement (List ℕ)
statement_in line (Kind x s) = Kind x (part line s)
statement_in line (Feature x f y) = Feature x f y

abbrev pub said_in : List ℕ → Said Span → Said (List ℕ)
said_in line s = record { statement = statement_in line s.statement; place = s.place }

abbrev pub noted : List ℕ → Notes → Told
noted line n = record { names = map (part line) n.names.items; said = map (said_in line) n.said.items; wrong = n.wrong }

-- how many variables and statements they hold
abbrev pub variables : Notes → ℕ
variables n = length n.names.items

abbrev pub statements : Notes → ℕ
statements n = length n.said.items

-- the number of a name, as the code searches for it
unfoldable pub first_named : List ℕ → List ℕ → List Span → Option ℕ
first_named line w names = position (λ n. bytes_eq w (part line n)) names

-- one variable more, with this name
abbrev pub with_name : List ℕ → Told → Told
with_name w t = record { names = t.names ++ w ∷ []; said = t.said; wrong = t.wrong }

-- the variable of a name among the names met, and whether it is one of them
abbrev pub Named : List ℕ → List (List ℕ) → found.Named → Type 0
Named w names r = (r.variable ≡ index w names) × (r.known ≡ listed w names)
