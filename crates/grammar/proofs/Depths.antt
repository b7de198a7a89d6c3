-- The depths of variables, statement by statement.
use Rattle.std.proofs.Common.{◌≡◌, ℕ, suc, ◌+◌, ◌≤◌, Bool, true, false, cond, eqb, List, [], ◌∷◌, ◌++◌, length, get_or, refl, arith}
use Rattle.std.proofs.lemmas.List.{length_push}
use Rattle.grammar.specs.declared.statement.Statement.{Statement}
use Rattle.grammar.specs.declared.statement.Statement.TheVariants.{Kind, Feature}
use Rattle.grammar.specs.Lawful.{depths_from, depths}

-- the depths after a feature statement
abbrev pub deeper : List ℕ → ℕ → ℕ → List ℕ
deeper ds x y = cond (eqb y (length ds)) (ds ++ suc (get_or ds x 0) ∷ []) ds

pub depths-none : (K : Type 0) (ds : List ℕ) → depths_from {K = K} ds [] ≡ ds
unfolding depths_from
depths-none K ds = refl

pub deeper_few : (ds : List ℕ) (x y : ℕ) → length (deeper ds x y) ≤ length ds + 1
deeper_few ds x y = step (eqb y (length ds))
  where
    step : (b : Bool) → length (cond b (ds ++ suc (get_or ds x 0) ∷ []) ds) ≤ length ds + 1
    step true = omega (arith, length_push ds (suc (get_or ds x 0)))
    step false = omega arith

module _ {K : Type 0} where
  pub depths_kind : (ds : List ℕ) (x : ℕ) (k : K) (ss : List (Statement K)) → depths_from ds (Kind x k ∷ ss) ≡ depths_from ds ss
  unfolding depths_from
  depths_kind ds x k ss = refl

  pub depths_feature : (ds : List ℕ) (x f y : ℕ) (ss : List (Statement K)) → depths_from ds (Feature x f y ∷ ss) ≡ depths_from (deeper ds x y) ss
  unfolding depths_from
  depths_feature ds x f y ss = refl

  pub depths-append : (ds : List ℕ) (ss ts : List (Statement K)) → depths_from ds (ss ++ ts) ≡ depths_from (depths_from ds ss) ts
  unfolding depths_from
  depths-append ds [] ts = refl
  depths-append ds (Kind x k ∷ ss) ts = depths-append ds ss ts
  depths-append ds (Feature x f y ∷ ss) ts = depths-append (deeper ds x y) ss ts

  -- one statement more
  pub depths_snoc_kind : (ss : List (Statement K)) (x : ℕ) (k : K) → depths (ss ++ Kind x k ∷ []) ≡ depths ss
  unfolding depths_from
  depths_snoc_kind ss x k = depths-append (0 ∷ []) ss (Kind x k ∷ [])

  pub depths_snoc_feature : (ss : List (Statement K)) (x f y : ℕ) → depths (ss ++ Feature x f y ∷ []) ≡ deeper (depths ss) x y
  unfolding depths_from
  depths_snoc_feature ss x f y = depths-append (0 ∷ []) ss (Feature x f y ∷ [])

  from_few : (ds : List ℕ) (ss : List (Statement K)) → length (depths_from ds ss) ≤ length ds + length ss
  unfolding depths_from
  from_few ds [] = omega arith
  from_few ds (Kind x k ∷ ss) = omega (arith, from_few ds ss)
  from_few ds (Feature x f y ∷ ss) = omega (arith, from_few (deeper ds x y) ss, deeper_few ds x y)

  pub depths_few : (ss : List (Statement K)) → length (depths ss) ≤ length ss + 1
  depths_few ss = omega (arith, from_few (0 ∷ []) ss)
