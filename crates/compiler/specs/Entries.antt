-- An entry as its readers see it.
use Rattle.std.specs.Prelude.{◌≡◌, ℕ, List, length, vec_items}
use Rattle.grammar.specs.declared.statement.Statement.{Statement}
use Rattle.grammar.specs.Lawful.{depths}
use Rattle.instructions.specs.declared.instruction.Instruction.{Instruction}
use Rattle.instructions.specs.Codes.{kinds, entry_code}
use Rattle.compiler.specs.declared.codes.entry.Entry.{Entry}

module _ {K : Type 0} where
  abbrev pub statements_of : Entry K → List (Statement K)
  statements_of e = vec_items e.source.statements

  abbrev pub kinds_of : Entry K → List K
  kinds_of e = vec_items e.source.kinds

  abbrev pub code_of : Entry K → List Instruction
  code_of e = vec_items e.code

  abbrev pub variables_of : Entry K → ℕ
  variables_of e = e.source.variables

  -- how many features are declared
  abbrev pub features_of : Entry K → ℕ
  features_of e = e.source.features

  -- for how many instructions there is memory
  abbrev pub room_of : Entry K → ℕ
  room_of e = e.source.room

  -- the entry of these statements over so many features
  pub record IsEntry (e : Entry K) (features : ℕ) (ss : List (Statement K)) : Type 0 where
    pub statements_are : statements_of e ≡ ss
    pub features_are : features_of e ≡ features
    pub variables_are : variables_of e ≡ length (depths ss)
    pub kinds_are : kinds_of e ≡ kinds ss
    pub code_is : code_of e ≡ entry_code ss
