-- A list of statements has as many variables as depths.
use Rattle.std.proofs.Common.{◌≡◌, ℕ, suc, Bool, true, false, cond, eqb, List, [], ◌∷◌, ◌++◌, length, get_or, refl, ap, ◌∙◌, arith}
use Rattle.std.proofs.lemmas.List.{length_push}
use Rattle.grammar.specs.declared.statement.Statement.{Statement}
use Rattle.grammar.specs.declared.statement.Statement.TheVariants.{Kind, Feature}
use Rattle.grammar.specs.Lawful.{depths_from, depths}
use Rattle.grammar.proofs.Depths.{deeper}
use Rattle.performing.specs.Following.{met_by}

one_more : (ds : List ℕ) (x y : ℕ) → cond (eqb y (length ds)) (suc (length ds)) (length ds) ≡ length (deeper ds x y)
one_more ds x y = each (eqb y (length ds))
  where
    each : (b : Bool) → cond b (suc (length ds)) (length ds) ≡ length (cond b (ds ++ suc (get_or ds x 0) ∷ []) ds)
    each true = omega (arith, length_push ds (suc (get_or ds x 0)))
    each false = refl

counted_from : {K : Type 0} (ds : List ℕ) (ss : List (Statement K)) → met_by (length ds) ss ≡ length (depths_from ds ss)
unfolding met_by depths_from
counted_from ds [] = refl
counted_from ds (Kind x k ∷ ss) = counted_from ds ss
counted_from ds (Feature x f y ∷ ss) = ap (λ p. met_by p ss) (one_more ds x y) ∙ counted_from (deeper ds x y) ss

-- the root is met first
pub counted : {K : Type 0} (ss : List (Statement K)) → met_by 1 ss ≡ length (depths ss)
counted ss = counted_from (0 ∷ []) ss
