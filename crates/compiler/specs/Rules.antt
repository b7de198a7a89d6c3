-- A rule as its readers see it.
use Rattle.std.specs.Prelude.{◌≡◌, ℕ, List, length, vec_items}
use Rattle.grammar.specs.declared.statement.Statement.{Statement}
use Rattle.grammar.specs.Lawful.{depths}
use Rattle.instructions.specs.declared.instruction.Instruction.{Instruction}
use Rattle.instructions.specs.Codes.{kinds, read_code, write_code}
use Rattle.compiler.specs.declared.codes.rule.Rule.{Rule}

module _ {K : Type 0} where
  abbrev pub statements_of : Rule K → List (Statement K)
  statements_of r = vec_items r.source.statements

  abbrev pub kinds_of : Rule K → List K
  kinds_of r = vec_items r.source.kinds

  abbrev pub reads_of : Rule K → List Instruction
  reads_of r = vec_items r.reads

  abbrev pub writes_of : Rule K → List Instruction
  writes_of r = vec_items r.writes

  abbrev pub variables_of : Rule K → ℕ
  variables_of r = r.source.variables

  -- how many features are declared
  abbrev pub features_of : Rule K → ℕ
  features_of r = r.source.features

  -- for how many instructions there is memory, those of both codes together
  abbrev pub room_of : Rule K → ℕ
  room_of r = r.source.room

  -- the rule of these statements over so many features
  pub record IsRule (r : Rule K) (features : ℕ) (ss : List (Statement K)) : Type 0 where
    pub statements_are : statements_of r ≡ ss
    pub features_are : features_of r ≡ features
    pub variables_are : variables_of r ≡ length (depths ss)
    pub kinds_are : kinds_of r ≡ kinds ss
    pub reads_are : reads_of r ≡ read_code ss
    pub writes_are : writes_of r ≡ write_code ss
