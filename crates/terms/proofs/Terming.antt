-- What a new term keeps.
use Rattle.std.proofs.Common.{◌≡◌, ℕ, true, List, [], ◌∷◌, sym, ap, ◌∙◌}
use Rattle.grammar.specs.declared.statement.Said.{Said}
use Rattle.grammar.specs.Lawful.{lawful, lawful_from, depths, statements}
use Rattle.grammar.proofs.Depths.{depths-none}

module _ {K : Type 0} (n : ℕ) (us : List (Said K)) (none : us ≡ []) where
  pub lawful-none : lawful n (statements us) ≡ true
  unfolding lawful_from
  lawful-none = ap (λ vs. lawful n (statements vs)) none

  pub one_depth : (ds : List ℕ) → ds ≡ 0 ∷ [] → ds ≡ depths (statements us)
  one_depth ds e = e ∙ sym (ap (λ vs. depths (statements vs)) none ∙ depths-none K (0 ∷ []))
