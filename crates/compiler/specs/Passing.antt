-- What the compiler counts as it goes over statements. A middle layer: no contract of a public call of this crate's users cites it.
use Rattle.std.specs.Prelude.{◌≡◌, ℕ, suc, ◌+◌, ◌<◌, cond, List, [], ◌∷◌, length, ◌==◌, slice_index}
use Rattle.grammar.specs.declared.statement.Statement.{Statement}
use Rattle.grammar.specs.declared.statement.Statement.TheVariants.{Kind, Feature}
use Rattle.instructions.specs.declared.instruction.Instruction.{Instruction}
use Rattle.instructions.specs.Codes.{Compiling, subject, depth_of, ends_before, is_root_kind}
use Rattle.compiler.specs.declared.codes.Pass.{Pass}

-- so many variables are met, and so many kinds came before
abbrev pub Counts : Pass → Compiling → Type 0
Counts p c = (p.met ≡ length c.depths) × (p.kinds ≡ c.kinds)

-- and the innermost open description is so deep, and the codes are as long as they are to be
pub record Goes (p : Pass) (depth : ℕ) (reads writes : List Instruction) (c : Compiling) : Type 0 where
  pub counts : Counts p c
  pub deep : depth ≡ c.depth
  pub reads_are : length reads ≡ c.statements
  pub writes_are : length writes ≡ c.written

-- the variable whose description is open after a statement, where so many are met
abbrev pub open_in : {K : Type 0} → ℕ → Statement K → ℕ
open_in met (Kind x k) = x
open_in met (Feature x f y) = cond (y == met) y x

-- where the instructions that write a statement begin
abbrev pub label_of : {K : Type 0} → Compiling → Statement K → ℕ
label_of c s = c.written + length (ends_before c (subject s))

-- how deep a new value is
abbrev pub NewKnown : {K : Type 0} → List ℕ → Compiling → Statement K → Type 0
NewKnown ds c (Kind x k) = Unit {0}
NewKnown ds c (Feature x f y) = y ≡ length c.depths → (y < length ds) × (slice_index ds y ≡ suc (depth_of c x))

-- the depths ds of all variables have those that a statement needs
pub record Known {K : Type 0} (ds : List ℕ) (c : Compiling) (s : Statement K) : Type 0 where
  pub met : subject s < length ds
  pub deep : slice_index ds (subject s) ≡ depth_of c (subject s)
  pub new : NewKnown ds c s

-- how many statements a rule writes
unfoldable pub written_by_rule : {K : Type 0} → List (Statement K) → ℕ
written_by_rule [] = 0
written_by_rule (s ∷ ss) = cond (is_root_kind s) (written_by_rule ss) (suc (written_by_rule ss))
