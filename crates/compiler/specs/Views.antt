-- What the compiler sees of a term.
use Rattle.std.specs.Prelude.{ℕ, List}
use Rattle.grammar.specs.declared.statement.Statement.{Statement}
use Rattle.grammar.specs.Lawful.{statements}
use Rattle.terms.specs.declared.term.Term.{Term}
use Rattle.terms.specs.Terms.{said_of, features_of}

module _ {K : Type 0} where
  abbrev pub statements_in : Term K → List (Statement K)
  statements_in t = statements (said_of t)

  -- how many features are declared
  abbrev pub features_in : Term K → ℕ
  features_in t = features_of t
