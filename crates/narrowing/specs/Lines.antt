-- The line with two kind texts, and where a line breaks this grammar.
--
-- A line is a text, a blank and a text: `rent_dd/4000..4000 receipt/1..100000`.
-- It breaks at a place: `rent`, at 4, since it ends too early; `rent  any`, at 5; `Rent any`, at 0; `rent any fee`, at 8.
use Rattle.std.specs.Prelude.{◌≡◌, ℕ, List, ◌∷◌, ◌++◌}
use Rattle.orders.specs.Texts.{IsText}
use Rattle.refusals.specs.Places as places

-- a lawful line, by its texts
pub record Line (line : List ℕ) : Type 0 where
  pub first : List ℕ
  pub second : List ℕ
  pub first_text : IsText first
  pub second_text : IsText second
  pub whole : line ≡ first ++ 32 ∷ second

-- p is the first byte at which no lawful line goes on, or the length of a line that only ends too early
abbrev pub Breaks : List ℕ → ℕ → Type 0
Breaks line p = places.Breaks Line line p
