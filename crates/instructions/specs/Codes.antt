-- The codes of a term, as functions of its statements.
--
-- An entry has one code, which writes all. A rule has a read code, with one instruction for each statement, and a write code, for the
-- parts of it that are not there yet: the values that are met first in a feature statement, each with its whole description, at whose
-- end a test asks whether reading goes on.
--
-- With the features `paid` (0), `back` (1) and `for` (2), the statements and codes of `any(paid=>any(back=>Y),for=>Y)` are
--
--   statement               read code               write code                                   entry's code
--                                                                                                 push_cell 0
--   0: 0 is under any       intersect_sort 0                                                      set_sort 0
--   1: paid of 0 is 1       test_feature 0 paid 1   0: push_cell 1, 1: set_feature 0 paid 1       push_cell 1, set_feature 0 paid 1
--   2: 1 is under any       intersect_sort 1        2: set_sort 1                                 set_sort 1
--   3: back of 1 is 2       test_feature 1 back 2   3: push_cell 2, 4: set_feature 1 back 2       push_cell 2, set_feature 1 back 2
--                                                   5: write_test of depth 2, 6: of depth 1
--   4: for of 0 is 2        unify_feature 0 for 2   7: set_feature 0 for 2                        set_feature 0 for 2
--
-- The first test_feature has depth 1 and the label 0, the second depth 2 and the label 3; both write_tests go back to 4.
use Rattle.std.specs.Prelude.{ℕ, zero, suc, ◌+◌, Bool, false, cond, List, [], ◌∷◌, ◌++◌, length, ◌==◌, nat_lt, slice_index}
use Rattle.grammar.specs.declared.statement.Statement.{Statement}
use Rattle.grammar.specs.declared.statement.Statement.TheVariants.{Kind, Feature}
use Rattle.instructions.specs.declared.instruction.Instruction.{Instruction}
use Rattle.instructions.specs.declared.instruction.Instruction.TheVariants.{PushCell, SetSort, SetFeature, IntersectSort, TestFeature, UnifyFeature, WriteTest}

-- the kinds of the kind statements, in order
unfoldable pub kinds : {K : Type 0} → List (Statement K) → List K
kinds [] = []
kinds (Kind x k ∷ ss) = k ∷ kinds ss
kinds (Feature x f y ∷ ss) = kinds ss

-- between two statements: the depths of the variables that are met; the depth of the innermost description that is open; how many kinds
-- came before, how many statements, and how many instructions of the write code
pub record Compiling : Type 0 where
  pub depths : List ℕ
  pub depth : ℕ
  pub kinds : ℕ
  pub statements : ℕ
  pub written : ℕ

-- at first the root's description is open
abbrev pub beginning : Compiling
beginning = record { depths = 0 ∷ []; depth = 0; kinds = 0; statements = 0; written = 0 }

abbrev pub subject : {K : Type 0} → Statement K → ℕ
subject (Kind x k) = x
subject (Feature x f y) = x

abbrev pub depth_of : Compiling → ℕ → ℕ
depth_of c x = slice_index c.depths x

-- whether a variable is met for the first time
abbrev pub is_new : Compiling → ℕ → Bool
is_new c y = y == length c.depths

-- from depth d up, the deepest first, the descriptions deeper than e end; reading goes on at the label
unfoldable pub closes : ℕ → ℕ → ℕ → List Instruction
closes zero e label = []
closes (suc d) e label = cond (nat_lt e (suc d)) (WriteTest (suc d) label ∷ closes d e label) []

-- the descriptions that end before a statement of x: all that are deeper than x
abbrev pub ends_before : Compiling → ℕ → List Instruction
ends_before c x = closes c.depth (depth_of c x) c.statements

-- the instructions that write a statement: a new value is pushed first
abbrev pub told : {K : Type 0} → Compiling → Statement K → List Instruction
told c (Kind x k) = SetSort x c.kinds ∷ []
told c (Feature x f y) = cond (is_new c y) (PushCell y ∷ SetFeature x f y ∷ []) (SetFeature x f y ∷ [])

-- a rule writes all but the kind of its root, which is always there
abbrev pub is_root_kind : {K : Type 0} → Statement K → Bool
is_root_kind (Kind x k) = x == 0
is_root_kind (Feature x f y) = false

abbrev pub told_by_rule : {K : Type 0} → Compiling → Statement K → List Instruction
told_by_rule c s = cond (is_root_kind s) [] (told c s)

-- the instruction that reads a statement; a test has the depth of its value, and the place in the write code of what writes the statement
abbrev pub read : {K : Type 0} → Compiling → Statement K → Instruction
read c (Kind x k) = IntersectSort x c.kinds
read c (Feature x f y) =
    cond (is_new c y) (TestFeature x f y (suc (depth_of c x)) (c.written + length (ends_before c x))) (UnifyFeature x f y)

abbrev pub more_kinds : {K : Type 0} → Statement K → ℕ → ℕ
more_kinds (Kind x k) n = suc n
more_kinds (Feature x f y) n = n

abbrev pub more_depths : {K : Type 0} → Statement K → List ℕ → List ℕ
more_depths (Kind x k) ds = ds
more_depths (Feature x f y) ds = cond (y == length ds) (ds ++ suc (slice_index ds x) ∷ []) ds

-- the depth of the description that is open after a statement: that of a new value, or its subject's
abbrev pub opened : {K : Type 0} → Compiling → Statement K → ℕ
opened c (Kind x k) = depth_of c x
opened c (Feature x f y) = cond (is_new c y) (suc (depth_of c x)) (depth_of c x)

abbrev pub next : {K : Type 0} → Compiling → Statement K → Compiling
next c s =
    record {
      depths = more_depths s c.depths;
      depth = opened c s;
      kinds = more_kinds s c.kinds;
      statements = suc c.statements;
      written = c.written + length (ends_before c (subject s)) + length (told_by_rule c s);
    }

unfoldable pub entry_from : {K : Type 0} → Compiling → List (Statement K) → List Instruction
entry_from c [] = []
entry_from c (s ∷ ss) = told c s ++ entry_from (next c s) ss

unfoldable pub read_from : {K : Type 0} → Compiling → List (Statement K) → List Instruction
read_from c [] = []
read_from c (s ∷ ss) = read c s ∷ read_from (next c s) ss

-- at the end all that are open end
unfoldable pub write_from : {K : Type 0} → Compiling → List (Statement K) → List Instruction
write_from c [] = closes c.depth 0 c.statements
write_from c (s ∷ ss) = ends_before c (subject s) ++ (told_by_rule c s ++ write_from (next c s) ss)

abbrev pub entry_code : {K : Type 0} → List (Statement K) → List Instruction
entry_code ss = PushCell 0 ∷ entry_from beginning ss

abbrev pub read_code : {K : Type 0} → List (Statement K) → List Instruction
read_code ss = read_from beginning ss

abbrev pub write_code : {K : Type 0} → List (Statement K) → List Instruction
write_code ss = write_from beginning ss
