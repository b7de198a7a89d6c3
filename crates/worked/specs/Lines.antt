-- The lines of the examples, and what they say: statements over variables from 0, kinds by their numbers in the shipped list, features by
-- their numbers among `paid` (0), `back` (1), `for` (2), `next` (3), `a` (4), `b` (5) and `f` (6).
use Rattle.std.specs.Prelude.{◌≡◌, ℕ, List, [], ◌∷◌, codes}
use Rattle.grammar.specs.declared.statement.Statement.{Statement}
use Rattle.grammar.specs.declared.statement.Statement.TheVariants.{Kind, Feature}
use Rattle.grammar.specs.declared.statement.Said.{Said}
use Rattle.grammar.specs.Lines.{Accepts}
use Rattle.grammar.specs.Lawful.{statements}
use Rattle.settings.specs.Words.{words}
use Rattle.worked.specs.Shipped.{texts}

-- the line is accepted, and says just this
abbrev pub Says : List ℕ → List (Statement ℕ) → Type 0
Says line ss = (us : List (Said ℕ)) × Accepts texts words 399 line us × (statements us ≡ ss)

abbrev pub returned_dd : List (Statement ℕ)
returned_dd = Kind 0 7 ∷ []

abbrev pub receipt : List (Statement ℕ)
receipt = Kind 0 4 ∷ []

abbrev pub by_dd : List (Statement ℕ)
by_dd = Kind 0 3 ∷ []

abbrev pub returned : List (Statement ℕ)
returned = Kind 0 6 ∷ []

-- paid by direct debit, and something sent back
abbrev pub paid_and_back : List (Statement ℕ)
paid_and_back = Kind 0 0 ∷ Feature 0 0 1 ∷ Kind 1 3 ∷ Feature 0 1 2 ∷ Kind 2 6 ∷ []

-- the two are one
abbrev pub same : List (Statement ℕ)
same = Kind 0 0 ∷ Feature 0 0 1 ∷ Feature 0 1 1 ∷ []

abbrev pub paid_fee : List (Statement ℕ)
paid_fee = Kind 0 0 ∷ Feature 0 0 1 ∷ Kind 1 9 ∷ []

abbrev pub two : List (Statement ℕ)
two = Kind 0 0 ∷ Feature 0 4 1 ∷ Kind 1 0 ∷ Feature 1 6 2 ∷ Kind 2 1 ∷ Feature 0 5 3 ∷ Kind 3 0 ∷ Feature 3 6 4 ∷ Kind 4 2 ∷ []

abbrev pub both : List (Statement ℕ)
both = Kind 0 0 ∷ Feature 0 4 1 ∷ Feature 0 5 1 ∷ []

abbrev pub anything : List (Statement ℕ)
anything = Kind 0 0 ∷ []

-- with four variables, and with five
abbrev pub four : List (Statement ℕ)
four = Kind 0 0 ∷ Feature 0 4 1 ∷ Kind 1 0 ∷ Feature 0 5 2 ∷ Kind 2 0 ∷ Feature 0 6 3 ∷ Kind 3 0 ∷ []

abbrev pub five : List (Statement ℕ)
five = Kind 0 0 ∷ Feature 0 4 1 ∷ Kind 1 0 ∷ Feature 0 5 2 ∷ Kind 2 0 ∷ Feature 0 6 3 ∷ Kind 3 0 ∷ Feature 0 0 4 ∷ Kind 4 0 ∷ []

pub record AllSay : Type 0 where
  pub returned_dd_says : Says (codes "returned_dd") returned_dd
  pub receipt_says : Says (codes "receipt") receipt
  pub by_dd_says : Says (codes "by_dd") by_dd
  pub returned_says : Says (codes "returned") returned
  pub paid_and_back_says : Says (codes "any(paid=>by_dd,back=>returned)") paid_and_back
  pub same_says : Says (codes "any(paid=>Y,back=>Y)") same
  pub paid_fee_says : Says (codes "any(paid=>fee)") paid_fee
  pub two_says : Says (codes "any(a=>any(f=>credit),b=>any(f=>debit))") two
  pub both_says : Says (codes "any(a=>Y,b=>Y)") both
  pub anything_says : Says (codes "any") anything
  pub four_says : Says (codes "any(a=>any,b=>any,f=>any)") four
  pub five_says : Says (codes "any(a=>any,b=>any,f=>any,paid=>any)") five
