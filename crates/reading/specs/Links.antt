-- The feature statement that a term is the value of, where it has one.
use Rattle.std.specs.Prelude.{ℕ, List, [], ◌∷◌, ◌++◌, Some, None, Option}
use Rattle.grammar.specs.declared.statement.Statement.TheVariants.{Feature}
use Rattle.grammar.specs.declared.statement.Said.{Said}
use Rattle.grammar.specs.Told.{Told}
use Rattle.reading.specs.declared.reader.Link.{Link}

abbrev pub link_said : Option Link → ℕ → List (Said (List ℕ))
link_said None y = []
link_said (Some l) y = record { statement = Feature l.variable l.feature y; place = l.place } ∷ []

abbrev pub links : Option Link → ℕ
links None = 0
links (Some l) = 1

abbrev pub linked : Option Link → ℕ → Told → Told
linked from y t = record { names = t.names; said = t.said ++ link_said from y; wrong = t.wrong }
