use Rattle.std.proofs.Common.{◌≡◌, List, [], ◌∷◌, refl}
use Rattle.grammar.specs.declared.statement.Statement.{Statement}
use Rattle.grammar.specs.declared.statement.Statement.TheVariants.{Kind, Feature}
use Rattle.instructions.specs.declared.instruction.Instruction.TheVariants.{PushCell, SetSort, SetFeature, IntersectSort, TestFeature, UnifyFeature, WriteTest}
use Rattle.instructions.specs.Codes.{closes, entry_from, read_from, write_from, entry_code, read_code, write_code}

module _ {K : Type 0} (any : K) where
  -- any(paid=>any(back=>Y),for=>Y), with the features `paid` (0), `back` (1) and `for` (2)
  rule : List (Statement K)
  rule = Kind 0 any ∷ Feature 0 0 1 ∷ Kind 1 any ∷ Feature 1 1 2 ∷ Feature 0 2 2 ∷ []

  read_listing : read_code rule ≡
      IntersectSort 0 0 ∷ TestFeature 0 0 1 1 0 ∷ IntersectSort 1 1 ∷ TestFeature 1 1 2 2 3 ∷ UnifyFeature 0 2 2 ∷ []
  unfolding rule closes read_from
  read_listing = refl

  write_listing : write_code rule ≡
      PushCell 1 ∷ SetFeature 0 0 1 ∷ SetSort 1 1 ∷ PushCell 2 ∷ SetFeature 1 1 2 ∷ WriteTest 2 4 ∷ WriteTest 1 4 ∷ SetFeature 0 2 2 ∷ []
  unfolding rule closes write_from
  write_listing = refl

  entry_listing : entry_code rule ≡
      PushCell 0 ∷ SetSort 0 0 ∷ PushCell 1 ∷ SetFeature 0 0 1 ∷ SetSort 1 1 ∷ PushCell 2 ∷ SetFeature 1 1 2 ∷ SetFeature 0 2 2 ∷ []
  unfolding rule entry_from
  entry_listing = refl
