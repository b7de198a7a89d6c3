-- The codes of a term set registers of its variables alone.
use Rattle.std.proofs.Common.{◌≡◌, ℕ, suc, zero, ◌≤◌, Bool, true, false, cond, List, [], ◌∷◌, ◌++◌, length, get_or, nat_lt, ◌+◌, refl, sym, subst, ap, arith}
use Rattle.std.proofs.lemmas.List.{length_push}
use Rattle.std.proofs.lemmas.Bool.{eqb-true}
use Rattle.grammar.specs.declared.statement.Statement.{Statement}
use Rattle.grammar.specs.declared.statement.Statement.TheVariants.{Kind, Feature}
use Rattle.grammar.specs.Lawful.{depths_from, depths}
use Rattle.instructions.specs.declared.instruction.Instruction.{Instruction}
use Rattle.instructions.specs.declared.instruction.Instruction.TheVariants.{PushCell, SetFeature, TestFeature, UnifyFeature, WriteTest}
use Rattle.instructions.specs.Codes.{Compiling, beginning, subject, depth_of, is_new, closes, ends_before, told, is_root_kind, told_by_rule, read, next, more_depths, entry_from, read_from, write_from, entry_code, read_code, write_code}
use Rattle.compiler.proofs.Onward.{depths_next, some_met, some_variable}
use Rattle.cases.specs.Machines.{Sets, AllSet}
use Rattle.cases.proofs.Running.{all_both}

module _ (n : ℕ) where
  closes_set : (d e label : ℕ) → AllSet n (closes d e label)
  unfolding closes
  closes_set zero e label = tt
  closes_set (suc d) e label = each (nat_lt e (suc d)) (closes_set d e label)
    where
      each : (b : Bool) → AllSet n (closes d e label) → AllSet n (cond b (WriteTest (suc d) label ∷ closes d e label) [])
      each true a = (tt, a)
      each false a = tt

  module _ {K : Type 0} where
    told_set : (c : Compiling) (s : Statement K) → length (more_depths s c.depths) ≤ n → AllSet n (told c s)
    told_set c (Kind x k) l = (tt, tt)
    told_set c (Feature x f y) l = each (is_new c y) refl l
      where
        each : (b : Bool) → is_new c y ≡ b → length (cond b (c.depths ++ suc (get_or c.depths x 0) ∷ []) c.depths) ≤ n
            → AllSet n (cond b (PushCell y ∷ SetFeature x f y ∷ []) (SetFeature x f y ∷ []))
        each true e l = (omega (arith, eqb-true y (length c.depths) e, length_push c.depths (suc (get_or c.depths x 0))), (tt, tt))
        each false e l = (tt, tt)

    told_by_rule_set : (c : Compiling) (s : Statement K) → length (more_depths s c.depths) ≤ n → AllSet n (told_by_rule c s)
    told_by_rule_set c s l = each (is_root_kind s)
      where
        each : (b : Bool) → AllSet n (cond b [] (told c s))
        each true = tt
        each false = told_set c s l

    read_set : (c : Compiling) (s : Statement K) → length (more_depths s c.depths) ≤ n → Sets n (read c s)
    read_set c (Kind x k) l = tt
    read_set c (Feature x f y) l = each (is_new c y) refl l
      where
        each : (b : Bool) → is_new c y ≡ b → length (cond b (c.depths ++ suc (get_or c.depths x 0) ∷ []) c.depths) ≤ n
            → Sets n (cond b (TestFeature x f y (suc (depth_of c x)) (c.written + length (ends_before c x))) (UnifyFeature x f y))
        each true e l = omega (arith, eqb-true y (length c.depths) e, length_push c.depths (suc (get_or c.depths x 0)))
        each false e l = tt

    module _ (s : Statement K) (ss : List (Statement K)) (ds : List ℕ) (l : length (depths_from ds (s ∷ ss)) ≤ n) where
      left : length (depths_from (more_depths s ds) ss) ≤ n
      left = omega (arith, l, ap length (depths_next s ss ds))

      now : length (more_depths s ds) ≤ n
      now = omega (arith, left, some_met (more_depths s ds) ss)

    entry_from_set : (c : Compiling) (ss : List (Statement K)) → length (depths_from c.depths ss) ≤ n → AllSet n (entry_from c ss)
    unfolding entry_from
    entry_from_set c [] l = tt
    entry_from_set c (s ∷ ss) l =
        all_both (Sets n) (told c s) (entry_from (next c s) ss) (told_set c s (now s ss c.depths l)) (entry_from_set (next c s) ss (left s ss c.depths l))

    read_from_set : (c : Compiling) (ss : List (Statement K)) → length (depths_from c.depths ss) ≤ n → AllSet n (read_from c ss)
    unfolding read_from
    read_from_set c [] l = tt
    read_from_set c (s ∷ ss) l = (read_set c s (now s ss c.depths l), read_from_set (next c s) ss (left s ss c.depths l))

    write_from_set : (c : Compiling) (ss : List (Statement K)) → length (depths_from c.depths ss) ≤ n → AllSet n (write_from c ss)
    unfolding write_from
    write_from_set c [] l = closes_set c.depth 0 c.statements
    write_from_set c (s ∷ ss) l =
        all_both (Sets n) (ends_before c (subject s)) _ (closes_set c.depth (depth_of c (subject s)) c.statements)
        (all_both (Sets n) (told_by_rule c s) _ (told_by_rule_set c s (now s ss c.depths l)) (write_from_set (next c s) ss (left s ss c.depths l)))

module _ {K : Type 0} (ss : List (Statement K)) (n : ℕ) (l : length (depths ss) ≤ n) (code : List Instruction) where
  pub entry_set : code ≡ entry_code ss → AllSet n code
  entry_set e = subst (AllSet n) (sym e) (omega (arith, l, some_variable ss), entry_from_set n beginning ss l)

  pub reads_set : code ≡ read_code ss → AllSet n code
  reads_set e = subst (AllSet n) (sym e) (read_from_set n beginning ss l)

  pub writes_set : code ≡ write_code ss → AllSet n code
  writes_set e = subst (AllSet n) (sym e) (write_from_set n beginning ss l)
