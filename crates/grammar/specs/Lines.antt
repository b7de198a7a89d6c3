-- Which lines are read, as what, and what the others are refused for. `features` are the declared features, `m` the texts of the
-- order, `room` the statements that there is memory for.
--
-- Read, with the features `paid` (0), `back` (1) and the shipped kinds: `rent`; `X`; `any(paid=>by_dd,back=>returned)`; `X:any(paid=>X)`.
-- Refused with 1 at 0: a line of over 1,000 bytes; a name or a feature of over 24; more than 16 parentheses open. Words and parentheses
--   count up to the byte at which the grammar fails: so many bytes that some line begins with them, but none within the limits.
-- Refused with 2: `any(`, at 4, where it ends too early; `any(paid=by_dd)`, at 9; `any(paid=>by_dd`, at 15; `any()`, at 4; `rent fee`, at 4.
-- Refused with 3: `any(loan=>fee)`, at 4, where `loan` is not declared; `any(paid=>fee,paid=>fee)`, at 14; `any(paid=>X,back=>X:fee)`, at 18.
-- Refused with 4: `any(paid=>loan)`, at 10, where no kind is written so.
-- Refused with 6: `any(paid=>fee)` where there is memory for two statements: it has three.
use Rattle.std.specs.Prelude.{◌≡◌, ℕ, ◌<◌, ◌≤◌, ◌⊎◌, List, [], ◌∷◌, ◌++◌, length, take, Some, None, Ok, Err, Result, ◌≢◌}
use Rattle.refusals.specs.declared.Refusal.{Refusal}
use Rattle.refusals.specs.Places.{GoesOn, Breaks}
use Rattle.refusals.specs.Table.{row}
use Rattle.orders.specs.Texts.{Texts}
use Rattle.grammar.specs.declared.statement.Statement.{Statement}
use Rattle.grammar.specs.declared.statement.Statement.TheVariants.{Kind, Feature}
use Rattle.grammar.specs.declared.statement.Said.{Said}
use Rattle.grammar.specs.Trees.{Tree, written, no_limits, limits, LawfulTree, Written}
use Rattle.grammar.specs.Told.{told}
use Rattle.grammar.specs.Lawful.{depths, statements}

-- some tree is written so; and some tree with words and parentheses within the limits
abbrev pub Grammar : List ℕ → Type 0
Grammar line = Written no_limits line

abbrev pub Limited : List ℕ → Type 0
Limited line = Written limits line

-- a line begins with bytes that go on to some tree, but to none within the limits
abbrev pub PastLimits : List ℕ → Type 0
PastLimits line = (q : ℕ) × (q ≤ length line) × GoesOn Grammar (take q line) × (GoesOn Limited (take q line) → ⊥)

-- reason 1
abbrev pub TooMuch : List ℕ → Type 0
TooMuch line = (1000 < length line) ⊎ PastLimits line

-- a line that has neither reason 1 nor reason 2, by its tree
pub record Line (line : List ℕ) : Type 0 where
  pub tree : Tree
  pub lawful : LawfulTree no_limits 0 tree
  pub whole : written tree ≡ line
  pub within : TooMuch line → ⊥

-- a statement with the kind that has its text
abbrev pub SameStatement : {K : Type 0} → Texts K → Statement (List ℕ) → Statement K → Type 0
SameStatement m (Kind x t) (Kind y k) = (x ≡ y) × (m.text k ≡ Some t)
SameStatement m (Kind x t) (Feature y f z) = ⊥
SameStatement m (Feature x f z) (Kind y k) = ⊥
SameStatement m (Feature x f z) (Feature y g w) = (x ≡ y) × (f ≡ g) × (z ≡ w)

-- statements one by one, each with the place of its word
abbrev pub Reads : {K : Type 0} → Texts K → List (Said (List ℕ)) → List (Said K) → Type 0
Reads m [] [] = Unit {0}
Reads m [] (u ∷ us) = ⊥
Reads m (s ∷ ss) [] = ⊥
Reads m (s ∷ ss) (u ∷ us) = SameStatement m s.statement u.statement × (s.place ≡ u.place) × Reads m ss us

-- reason 4: the leftmost kind text that no kind has begins at p
pub record WrongKind {K : Type 0} (m : Texts K) (ss : List (Said (List ℕ))) (p : ℕ) : Type 0 where
  pub before : List (Said (List ℕ))
  pub subject : ℕ
  pub text : List ℕ
  pub behind : List (Said (List ℕ))
  pub split : ss ≡ before ++ record { statement = Kind subject text; place = p } ∷ behind
  pub kinds : List (Said K)
  pub read : Reads m before kinds
  pub wrong : (k : K) → m.text k ≢ Some text

-- the statements that are read from a line, and how many variables they have
pub record Accepts {K : Type 0} (m : Texts K) (features : List (List ℕ)) (room : ℕ) (line : List ℕ) (us : List (Said K)) : Type 0 where
  pub words : Line line
  pub right : (told features words.tree).wrong ≡ None
  pub said : Reads m (told features words.tree).said us
  pub fits : length us ≤ room
  pub variables : length (depths (statements us)) ≡ length (told features words.tree).names

-- the refusal of a line: its reasons by number, each where no earlier one holds
abbrev pub Refuses : {K : Type 0} → Texts K → List (List ℕ) → ℕ → List ℕ → Refusal → Type 0
Refuses {K} m features room line e =
    (TooMuch line × (row e ≡ record { number = 1; values = 0 ∷ [] }))
    ⊎ (((TooMuch line → ⊥) × (p : ℕ) × Breaks Grammar line p × (row e ≡ record { number = 2; values = p ∷ [] }))
    ⊎ (((l : Line line) × (p : ℕ) × ((told features l.tree).wrong ≡ Some p) × (row e ≡ record { number = 3; values = p ∷ [] }))
    ⊎ (((l : Line line) × ((told features l.tree).wrong ≡ None) × (p : ℕ) × WrongKind m (told features l.tree).said p × (row e ≡ record { number = 4; values = p ∷ [] }))
    ⊎ ((l : Line line) × ((told features l.tree).wrong ≡ None) × (us : List (Said K)) × Reads m (told features l.tree).said us × (room < length us) × (row e ≡ record { number = 6; values = [] })))))

-- reading a line: the statements that it gives, or a refusal
abbrev pub Answers : {K : Type 0} → Texts K → List (List ℕ) → ℕ → List ℕ → List (Said K) → Result (Unit {0}) Refusal → Type 0
Answers m features room line us (Ok _) = Accepts m features room line us
Answers m features room line us (Err e) = Refuses m features room line e
