-- How many instructions the code of an entry has: one for each variable and one for each statement.
use Rattle.std.proofs.Common.{◌≡◌, suc, ◌+◌, Bool, true, false, cond, List, [], ◌∷◌, ◌++◌, length, get_or, length-append, ap, arith}
use Rattle.std.proofs.lemmas.List.{length_push, length-map}
use Rattle.grammar.specs.declared.statement.Statement.{Statement}
use Rattle.grammar.specs.declared.statement.Statement.TheVariants.{Kind, Feature}
use Rattle.grammar.specs.declared.statement.Said.{Said}
use Rattle.grammar.specs.Lawful.{depths_from, depths, statements}
use Rattle.instructions.specs.declared.instruction.Instruction.TheVariants.{PushCell, SetFeature}
use Rattle.instructions.specs.Codes.{Compiling, beginning, is_new, told, next, more_depths, entry_from, entry_code}
use Rattle.compiler.proofs.Onward.{depths_next, some_met}

module _ {K : Type 0} where
  -- an instruction for the statement, and one for its value if that is new
  pub told_length : (c : Compiling) (s : Statement K) → length (told c s) + length c.depths ≡ suc (length (more_depths s c.depths))
  told_length c (Kind x k) = omega arith
  told_length c (Feature x f y) = each (is_new c y)
    where
      each : (b : Bool) →
          length (cond b (PushCell y ∷ SetFeature x f y ∷ []) (SetFeature x f y ∷ [])) + length c.depths ≡
          suc (length (cond b (c.depths ++ suc (get_or c.depths x 0) ∷ []) c.depths))
      each true = omega (arith, length_push c.depths (suc (get_or c.depths x 0)))
      each false = omega arith

  entry_length_from : (c : Compiling) (ss : List (Statement K)) → length (entry_from c ss) + length c.depths ≡ length ss + length (depths_from c.depths ss)
  unfolding entry_from depths_from
  entry_length_from c [] = omega arith
  entry_length_from c (s ∷ ss) =
      omega (
        arith,
        length-append (told c s) (entry_from (next c s) ss),
        told_length c s,
        entry_length_from (next c s) ss,
        ap length (depths_next s ss c.depths),
      )

  pub entry_length : (said : List (Said K)) → length (entry_code (statements said)) ≡ length (depths (statements said)) + length said
  entry_length said =
      omega (arith, entry_length_from beginning (statements said), length-map said (λ s. s.statement), some_met (0 ∷ []) (statements said))
