-- Statements read with kinds that alone have their texts.
use Rattle.std.specs.Prelude.{◌≡◌, ℕ, List, [], ◌∷◌}
use Rattle.orders.specs.Texts.{Texts}
use Rattle.orders.specs.Whole.{OnlyKind}
use Rattle.grammar.specs.declared.statement.Statement.{Statement}
use Rattle.grammar.specs.declared.statement.Statement.TheVariants.{Kind, Feature}
use Rattle.grammar.specs.declared.statement.Said.{Said}

-- a statement with the only kind that has its text
abbrev pub OnlyStatement : {K : Type 0} → Texts K → Statement (List ℕ) → Statement K → Type 0
OnlyStatement m (Kind x t) (Kind y k) = (x ≡ y) × OnlyKind m t k
OnlyStatement m (Kind x t) (Feature y f z) = ⊥
OnlyStatement m (Feature x f z) (Kind y k) = ⊥
OnlyStatement m (Feature x f z) (Feature y g w) = (x ≡ y) × (f ≡ g) × (z ≡ w)

-- statements one by one, each with the place of its word
abbrev pub OnlyReads : {K : Type 0} → Texts K → List (Said (List ℕ)) → List (Said K) → Type 0
OnlyReads m [] [] = Unit {0}
OnlyReads m [] (u ∷ us) = ⊥
OnlyReads m (s ∷ ss) [] = ⊥
OnlyReads m (s ∷ ss) (u ∷ us) = OnlyStatement m s.statement u.statement × (s.place ≡ u.place) × OnlyReads m ss us
