-- The features of statements, one by one.
use Rattle.std.proofs.Common.{◌≡◌, ℕ, ◌+◌, ◌<◌, ◌≤◌, true, false, ◌&&◌, List, ◌∷◌, length, get_or, drop, refl, ap, ◌∙◌}
use Rattle.std.proofs.lemmas.List.{drop_all}
use Rattle.grammar.specs.declared.statement.Statement.{Statement}
use Rattle.grammar.specs.declared.statement.Statement.TheVariants.{Kind, Feature}
use Rattle.compiler.proofs.Onward.{left_more}
use Rattle.osf.specs.Calls.{features_below}
use Rattle.cases.specs.Limits.{is_below}

module _ {K : Type 0} (f : ℕ) where
  pub below_first : (s : Statement K) (ss : List (Statement K)) → features_below f (s ∷ ss) ≡ is_below f s && features_below f ss
  unfolding features_below
  below_first (Kind x k) ss = refl
  below_first (Feature x g y) ss = refl

  module _ (ss : List (Statement K)) (i : ℕ) where
    module _ (s : Statement K) (l : i < length ss) (here : s ≡ get_or ss i s) where
      below_next : features_below f (drop i ss) ≡ is_below f s && features_below f (drop (i + 1) ss)
      below_next = ap (features_below f) (left_more ss s i l here) ∙ below_first s (drop (i + 1) ss)

      pub below_not : is_below f s ≡ false → features_below f (drop i ss) ≡ false
      below_not e = below_next ∙ ap (λ b. b && features_below f (drop (i + 1) ss)) e

      pub below_more : is_below f s ≡ true → features_below f (drop i ss) ≡ features_below f (drop (i + 1) ss)
      below_more e = below_next ∙ ap (λ b. b && features_below f (drop (i + 1) ss)) e

    pub below_all : length ss ≤ i → features_below f (drop i ss) ≡ true
    unfolding features_below
    below_all l = ap (features_below f) (drop_all i ss l)
