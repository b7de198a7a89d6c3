-- The grammar of lines, by trees and how they are written.
--
-- A term is a bare name, as `Y`; or a kind text, with a name and a colon before it if it has a name, and a list after it if it
-- has items: `rent`, `X:rent`, `any(paid=>by_dd,back=>Y)`. A list is `(`, one item or more parted by `,`, and `)`; an item is a
-- feature, the arrow `=>` and a term. There are no blanks.
use Rattle.std.specs.Prelude.{◌≡◌, ℕ, suc, Bool, true, List, [], ◌∷◌, ◌++◌, length, Some, None, Option, nat_le}
use Rattle.grammar.specs.Words.{is_variable, is_feature, is_text}

mutual
  pub data Tree : Type 0 where
    bare : List ℕ → Tree
    described : Option (List ℕ) → List ℕ → Items → Tree

  -- the items of a list; no items, no list
  pub data Items : Type 0 where
    none : Items
    item : List ℕ → Tree → Items → Items

-- the name of a description, with its colon
abbrev pub label : Option (List ℕ) → List ℕ
label (Some n) = n ++ 58 ∷ []
label None = []

unfoldable mutual
  pub written : Tree → List ℕ
  written (bare n) = n
  written (described o k items) = label o ++ (k ++ listing items)

  -- from the parenthesis that opens the list
  pub listing : Items → List ℕ
  listing none = []
  listing (item f t rest) = 40 ∷ (f ++ 61 ∷ 62 ∷ (written t ++ more rest))

  -- from the end of an item
  pub more : Items → List ℕ
  more none = 41 ∷ []
  more (item f t rest) = 44 ∷ (f ++ 61 ∷ 62 ∷ (written t ++ more rest))

-- how many bytes a name or a feature may have, and how many parentheses may be open
pub record Limits : Type 0 where
  pub word : ℕ → Bool
  pub open_at : ℕ → Bool

abbrev pub no_limits : Limits
no_limits = record { word = λ _. true; open_at = λ _. true }

abbrev pub limits : Limits
limits = record { word = λ n. nat_le n 24; open_at = λ d. nat_le d 16 }

abbrev pub LawfulLabel : Limits → Option (List ℕ) → Type 0
LawfulLabel L (Some n) = (is_variable n ≡ true) × (L.word (length n) ≡ true)
LawfulLabel L None = Unit {0}

-- the words of a tree are names, features and texts, within the limits, where d parentheses are open around it
unfoldable mutual
  pub LawfulTree : Limits → ℕ → Tree → Type 0
  LawfulTree L d (bare n) = (is_variable n ≡ true) × (L.word (length n) ≡ true)
  LawfulTree L d (described o k items) = LawfulLabel L o × (is_text k ≡ true) × LawfulList L d items

  pub LawfulList : Limits → ℕ → Items → Type 0
  LawfulList L d none = Unit {0}
  LawfulList L d (item f t rest) =
      (L.open_at (suc d) ≡ true) × (is_feature f ≡ true) × (L.word (length f) ≡ true) × LawfulTree L (suc d) t × LawfulItems L (suc d) rest

  pub LawfulItems : Limits → ℕ → Items → Type 0
  LawfulItems L d none = Unit {0}
  LawfulItems L d (item f t rest) = (is_feature f ≡ true) × (L.word (length f) ≡ true) × LawfulTree L d t × LawfulItems L d rest

-- a line is the writing of a tree with lawful words
abbrev pub Written : Limits → List ℕ → Type 0
Written L line = (t : Tree) × LawfulTree L 0 t × (written t ≡ line)
