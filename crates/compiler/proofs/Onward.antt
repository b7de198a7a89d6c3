-- Where the compiler stands between two statements.
use Rattle.std.proofs.Common.{◌≡◌, ℕ, suc, ◌+◌, ◌<◌, ◌≤◌, cond, eqb, Bool, true, false, List, [], ◌∷◌, ◌++◌, length, get_or, drop, sym, refl, ap, ◌∙◌, arith}
use Rattle.std.proofs.lemmas.List.{length_push, drop_more}
use Rattle.grammar.specs.declared.statement.Statement.{Statement}
use Rattle.grammar.specs.declared.statement.Statement.TheVariants.{Kind, Feature}
use Rattle.grammar.specs.Lawful.{depths_from, depths}
use Rattle.instructions.specs.Codes.{Compiling, beginning, next, more_kinds, more_depths}
use Rattle.compiler.specs.declared.codes.Pass.{Pass}
use Rattle.compiler.specs.Passing.{Counts}

-- after i statements, with `rest` still to come
pub record Here {K : Type 0} (ss rest : List (Statement K)) (i : ℕ) (p : Pass) (c : Compiling) : Type 0 where
  pub counts : Counts p c
  pub depths_rest : depths_from c.depths rest ≡ depths ss
  pub kinds_few : c.kinds ≤ i

-- the next of a list
pub left_more : {X : Type 0} (xs : List X) (x : X) (i : ℕ) → i < length xs → x ≡ get_or xs i x → drop i xs ≡ x ∷ drop (i + 1) xs
left_more xs x i l e = drop_more xs i x l ∙ ap (λ y. y ∷ drop (i + 1) xs) (sym e)

module _ {K : Type 0} where
  pub here_first : (ss : List (Statement K)) (p : Pass) → p.met ≡ 1 → p.kinds ≡ 0 → Here ss ss 0 p beginning
  here_first ss p m k = record { counts = (m, k); depths_rest = refl; kinds_few = omega arith }

  more_kinds_few : (s : Statement K) (n i : ℕ) → n ≤ i → more_kinds s n ≤ i + 1
  more_kinds_few (Kind x k) n i l = omega arith
  more_kinds_few (Feature x f y) n i l = omega arith

  pub depths_next : (s : Statement K) (rest : List (Statement K)) (ds : List ℕ) → depths_from ds (s ∷ rest) ≡ depths_from (more_depths s ds) rest
  unfolding depths_from
  depths_next (Kind x k) rest ds = refl
  depths_next (Feature x f y) rest ds = refl

  pub here_next : (ss rest : List (Statement K)) (s : Statement K) (i : ℕ) (p q : Pass) (c : Compiling) →
      Here ss (s ∷ rest) i p c → Counts q (next c s) → Here ss rest (i + 1) q (next c s)
  here_next ss rest s i p q c h n =
      record { counts = n; depths_rest = sym (depths_next s rest c.depths) ∙ h.depths_rest; kinds_few = more_kinds_few s c.kinds i h.kinds_few }

  -- as many variables as there are in the end, at most
  pub no_fewer : (ds : List ℕ) (s : Statement K) → length ds ≤ length (more_depths s ds)
  no_fewer ds (Kind x k) = omega arith
  no_fewer ds (Feature x f y) = each (eqb y (length ds))
    where
      each : (b : Bool) → length ds ≤ length (cond b (ds ++ suc (get_or ds x 0) ∷ []) ds)
      each true = omega (arith, length_push ds (suc (get_or ds x 0)))
      each false = omega arith

  pub some_met : (ds : List ℕ) (rest : List (Statement K)) → length ds ≤ length (depths_from ds rest)
  unfolding depths_from
  some_met ds [] = omega arith
  some_met ds (s ∷ rest) = omega (arith, no_fewer ds s, some_met (more_depths s ds) rest, ap length (depths_next s rest ds))

  -- the root at least
  pub some_variable : (ss : List (Statement K)) → 0 < length (depths ss)
  some_variable ss = omega (arith, some_met (0 ∷ []) ss)

  pub met_few : (ss rest : List (Statement K)) (i : ℕ) (p : Pass) (c : Compiling) → Here ss rest i p c → p.met ≤ length (depths ss)
  met_few ss rest i p c h = omega (arith, h.counts.0, some_met c.depths rest, ap length h.depths_rest)
