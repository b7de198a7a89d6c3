-- A line byte by byte: a middle layer between the reader and the trees, which no contract of a public call cites.
use Rattle.std.specs.Prelude.{ℕ, zero, suc, Bool, false, cond, List, take, Some, None, Option, ◌==◌}
use Rattle.declarations.specs.Names.{letter, name_byte}
use Rattle.scanning.specs.Scanner as scanner
use Rattle.orders.specs.Texts.{text_byte}
use Rattle.grammar.specs.Words.{capital, name_letter}
use Rattle.grammar.specs.Trees.{Limits, limits}

-- what stands before the next byte: nothing of a term; so many bytes of a name; a name's colon; a part of a kind text; what a
-- feature follows; so many bytes of a feature; the first half of the arrow; a closed list
pub data Part : Type 0 where
  begin : Part
  in_name : ℕ → Part
  colon : Part
  in_kind : Part
  comma : Part
  in_feature : ℕ → Part
  equals : Part
  closed : Part

-- the part, and how many parentheses are open
pub data State : Type 0 where
  state : Part → ℕ → State

abbrev pub start : State
start = state begin 0

abbrev pub kept_if : Bool → State → Option State
kept_if b s = cond b (Some s) None

-- after a whole term: the next item, or the end of the list
abbrev pub closing : ℕ → ℕ → Option State
closing zero b = None
closing (suc d) b = cond (b == 44) (Some (state comma (suc d))) (cond (b == 41) (Some (state closed d)) None)

abbrev pub step : Limits → State → ℕ → Option State
step L (state begin d) b = cond (capital b) (kept_if (L.word 1) (state (in_name 1) d)) (cond (text_byte b) (Some (state in_kind d)) None)
step L (state (in_name n) d) b =
    cond (name_letter b) (kept_if (L.word (suc n)) (state (in_name (suc n)) d)) (cond (b == 58) (Some (state colon d)) (closing d b))
step L (state colon d) b = cond (text_byte b) (Some (state in_kind d)) None
step L (state in_kind d) b =
    cond (text_byte b) (Some (state in_kind d)) (cond (b == 40) (kept_if (L.open_at (suc d)) (state comma (suc d))) (closing d b))
step L (state comma d) b = cond (letter b) (kept_if (L.word 1) (state (in_feature 1) d)) None
step L (state (in_feature n) d) b =
    cond (name_byte b) (kept_if (L.word (suc n)) (state (in_feature (suc n)) d)) (cond (b == 61) (Some (state equals d)) None)
step L (state equals d) b = cond (b == 62) (Some (state begin d)) None
step L (state closed d) b = closing d b

abbrev pub runs : Limits → State → List ℕ → Option State
runs L = scanner.runs (step L)

-- whether a line may end so
abbrev pub accepting : State → Bool
accepting (state begin d) = false
accepting (state (in_name n) d) = d == 0
accepting (state colon d) = false
accepting (state in_kind d) = d == 0
accepting (state comma d) = false
accepting (state (in_feature n) d) = false
accepting (state equals d) = false
accepting (state closed d) = d == 0

-- where the first bytes of a line lead, within the limits
abbrev pub here : List ℕ → ℕ → Option State
here line i = runs limits start (take i line)
