-- The text of what reading a line answers. `features` are the names of the declared features, `m` the texts of the order.
--
-- With the features `paid` and `back`, `debit/-9..-1(back=>X)` gives
--   1 X1:debit/-9..-1
--   2 X1.back=X2
-- a bare name gives `no statements`, and `any/1..9(loan=>X)` gives a mark under the place of the wrong word and then the refusal:
--            ^
--   refused 3 9
use Rattle.std.specs.Prelude.{ℕ, ◌+◌, cond, List, [], ◌∷◌, ◌++◌, length, replicate, Ok, Err, codes, decimal, Result, nat_lt, slice_index_or}
use Rattle.refusals.specs.declared.Refusal.{Refusal}
use Rattle.refusals.specs.declared.Refusal.TheVariants.{Limit, Grammar, Word, Kind as NoKind, NoWidest, Memory, Cell, Feature as NoFeature, Full, Clash}
use Rattle.orders.specs.Texts.{Texts}
use Rattle.grammar.specs.declared.statement.Statement.{Statement}
use Rattle.grammar.specs.declared.statement.Statement.TheVariants.{Kind, Feature}
use Rattle.grammar.specs.declared.statement.Said.{Said}
use Rattle.grammar.specs.Lawful.{statements}
use Rattle.showing.specs.Shown.{kind_shown, refusal_shown}

-- variables count from 0 and are printed from X1
abbrev pub variable_shown : ℕ → List ℕ
variable_shown x = codes "X" ++ decimal (x + 1)

-- a feature's name, or a question mark where no feature has the number
abbrev pub feature_shown : List (List ℕ) → ℕ → List ℕ
feature_shown features f = cond (nat_lt f (length features)) (slice_index_or features f []) (codes "?")

module _ {K : Type 0} (m : Texts K) (features : List (List ℕ)) where
  abbrev pub statement_shown : Statement K → List ℕ
  statement_shown (Kind x k) = variable_shown x ++ (codes ":" ++ kind_shown (m.text k))
  statement_shown (Feature x f y) = variable_shown x ++ (codes "." ++ (feature_shown features f ++ (codes "=" ++ variable_shown y)))

  -- a statement behind its number
  abbrev pub row_shown : ℕ → Statement K → List ℕ
  row_shown n s = decimal n ++ (codes " " ++ statement_shown s)

  -- statements with the numbers from n on, a line feed before each
  unfoldable pub later_shown : ℕ → List (Statement K) → List ℕ
  later_shown n [] = []
  later_shown n (s ∷ ss) = 10 ∷ (row_shown n s ++ later_shown (n + 1) ss)

  -- the same on a line of its own: a line feed before each but the first
  abbrev pub line_shown : ℕ → Statement K → List ℕ
  line_shown n s = cond (nat_lt 1 n) (10 ∷ row_shown n s) (row_shown n s)

  -- statements with the numbers from 1 on, a line feed between two
  abbrev pub said_shown : List (Statement K) → List ℕ
  said_shown [] = codes "no statements"
  said_shown (s ∷ ss) = row_shown 1 s ++ later_shown 2 ss

-- a line with a mark under a place
abbrev pub mark : ℕ → List ℕ
mark p = replicate p 32 ++ (codes "^" ++ 10 ∷ [])

-- the line with the mark, where the refusal has a place in the line
abbrev pub mark_of : Refusal → List ℕ
mark_of (Limit p) = mark p
mark_of (Grammar p) = mark p
mark_of (Word p) = mark p
mark_of (NoKind p) = mark p
mark_of (NoWidest i j) = []
mark_of Memory = []
mark_of Cell = []
mark_of NoFeature = []
mark_of Full = []
mark_of (Clash s) = []

-- the refusal behind its mark
abbrev pub marked_refusal : Refusal → List ℕ
marked_refusal e = mark_of e ++ refusal_shown e

-- the statements that a line gave, or its refusal
abbrev pub shown : {K : Type 0} → Texts K → List (List ℕ) → List (Said K) → Result (Unit {0}) Refusal → List ℕ
shown m features us (Ok _) = said_shown m features (statements us)
shown m features us (Err e) = marked_refusal e
