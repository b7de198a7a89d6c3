-- What a term says: its variables, numbered by first place, its statements in order, and the leftmost wrong word.
--
-- With the features `paid` (0) and `back` (1), `any(paid=>Y,back=>Y:fee)` has the variables 0 and 1 (`Y`), and the statements
--   0 is at or under `any` (the word at 0); feature 0 of 0 is 1 (at 4); feature 1 of 0 is 1 (at 12); 1 is at or under `fee` (at 20).
-- Its leftmost wrong word is the second `Y`, at 18: a name may be described only at its first place.
use Rattle.std.specs.Prelude.{ℕ, suc, ◌+◌, Bool, cond, not, ◌||◌, List, [], ◌∷◌, ◌++◌, length, Some, None, Option}
use Rattle.std.specs.Str.{bytes_eq}
use Rattle.declarations.specs.Names.{listed}
use Rattle.grammar.specs.declared.statement.Statement.{Statement}
use Rattle.grammar.specs.declared.statement.Statement.TheVariants.{Kind, Feature}
use Rattle.grammar.specs.declared.statement.Said.{Said}
use Rattle.grammar.specs.Trees.{Tree, Items, bare, described, none, item, label, written}

-- the number of a word among words, or how many they are where it is none of them
unfoldable pub index : List ℕ → List (List ℕ) → ℕ
index w [] = 0
index w (v ∷ vs) = cond (bytes_eq w v) 0 (suc (index w vs))

-- what has been read of a line so far: its variables by their names, empty for one that has no name; the statements, with kinds by
-- their texts; the place of the leftmost wrong word
pub record Told : Type 0 where
  pub names : List (List ℕ)
  pub said : List (Said (List ℕ))
  pub wrong : Option ℕ

abbrev pub nothing : Told
nothing = record { names = []; said = []; wrong = None }

-- the variable with this name, a new one where the name was not met before
abbrev pub meet : List ℕ → Told → Told
meet n t = record { names = cond (listed n t.names) t.names (t.names ++ n ∷ []); said = t.said; wrong = t.wrong }

-- a new variable without a name
abbrev pub meet_unnamed : Told → Told
meet_unnamed t = record { names = t.names ++ [] ∷ []; said = t.said; wrong = t.wrong }

abbrev pub say : Statement (List ℕ) → ℕ → Told → Told
say s p t = record { names = t.names; said = t.said ++ record { statement = s; place = p } ∷ []; wrong = t.wrong }

abbrev pub first : Option ℕ → Option ℕ → Option ℕ
first (Some p) o = Some p
first None o = o

-- the word at this place is wrong if the test says so
abbrev pub mark : Bool → ℕ → Told → Told
mark b p t = record { names = t.names; said = t.said; wrong = first t.wrong (cond b (Some p) None) }

-- the variable of a description, by its name
abbrev pub subject : Option (List ℕ) → Told → ℕ
subject (Some n) t = index n t.names
subject None t = length t.names

-- the variable of a description that begins at p; its name is wrong where it was met before
abbrev pub introduce : Option (List ℕ) → ℕ → Told → Told
introduce (Some n) p t = mark (listed n t.names) p (meet n t)
introduce None p t = meet_unnamed t

-- the variable of a term
abbrev pub variable : Tree → Told → ℕ
variable (bare n) t = index n t.names
variable (described o k items) t = subject o t

unfoldable mutual
  -- what a term that begins at p adds; `features` are those declared
  pub tell : List (List ℕ) → Tree → ℕ → Told → Told
  tell features (bare n) p t = meet n t
  tell features (described o k items) p t =
      let q = p + length (label o) in
      tell_items features items (subject o t) [] (q + length k) (say (Kind (subject o t) k) q (introduce o p t))

  -- what the items of x add, from the parenthesis or the comma at p on, where `before` are the features of the items before them
  pub tell_items : List (List ℕ) → Items → ℕ → List (List ℕ) → ℕ → Told → Told
  tell_items features none x before p t = t
  tell_items features (item f u rest) x before p t =
      let q = p + 1 + length f + 2 in
      tell_items features rest x (f ∷ before) (q + length (written u))
      (tell features u q (say (Feature x (index f features) (variable u t)) (p + 1) (mark (not (listed f features) || listed f before) (p + 1) t)))

abbrev pub told : List (List ℕ) → Tree → Told
told features t = tell features t 0 nothing
