-- The reasons to refuse a term before it is entered or matched, in their order; how many slots the case has, where there is none. A middle
-- layer: no contract of a public call cites it.
use Rattle.std.specs.Prelude.{ℕ, ◌+◌, ◌-◌, ◌*◌, Bool, true, cond, not, ◌||◌, List, Ok, Err, Result, nat_lt, nat_le}
use Rattle.refusals.specs.declared.Refusal.{Refusal}
use Rattle.refusals.specs.declared.Refusal.TheVariants.{Memory, Cell, Feature, Full}
use Rattle.grammar.specs.declared.statement.Statement.{Statement}
use Rattle.grammar.specs.declared.statement.Statement.TheVariants as said
use Rattle.osf.specs.Calls.{Lent, too_short_for, features_below}
use Rattle.cases.specs.declared.case.Case.{Case}

-- the feature of a statement is below f
abbrev pub is_below : {K : Type 0} → ℕ → Statement K → Bool
is_below f (said.Kind x k) = true
is_below f (said.Feature x g y) = nat_lt g f

module _ {K : Type 0} (l : Lent) (case : Case) (ss : List (Statement K)) (variables : ℕ) where
  -- a feature past the case's, or a place list of so many places that is shorter than the variables
  abbrev pub past : ℕ → Bool
  past places = not (features_below case.features ss) || nat_lt places variables

  abbrev pub may_enter : ℕ → Result ℕ Refusal
  may_enter places =
      cond (too_short_for case.cells case.features l) (Err Memory)
      (cond (past places) (Err Feature)
      (cond (nat_lt case.cells (case.used + variables)) (Err Full)
      (Ok (case.cells * case.features))))

  abbrev pub may_match : ℕ → ℕ → Result ℕ Refusal
  may_match i places =
      cond (too_short_for case.cells case.features l) (Err Memory)
      (cond (nat_le case.used i) (Err Cell)
      (cond (past places) (Err Feature)
      (cond (nat_lt case.cells (case.used + variables - 1)) (Err Full)
      (Ok (case.cells * case.features)))))
