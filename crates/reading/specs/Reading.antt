-- What the steps of the reader give: a middle layer under what `read` promises.
use Rattle.std.specs.Prelude.{◌≡◌, ℕ, suc, ◌+◌, ◌*◌, ◌/◌, ◌<◌, ◌≤◌, Bool, true, false, cond, not, ◌||◌, ◌⊎◌, List, [], ◌∷◌, ◌++◌, length, take, Some, None, Ok, Err, Option, Result, ◌==◌, nat_le, nat_lt, slice_index, slice_index_or}
use Rattle.std.specs.List.{position, position_or_len}
use Rattle.refusals.specs.declared.Refusal.{Refusal}
use Rattle.refusals.specs.Places.{Breaks}
use Rattle.refusals.specs.Table.{row}
use Rattle.declarations.specs.Names.{name_byte, listed}
use Rattle.orders.specs.Texts.{text_byte}
use Rattle.grammar.specs.declared.statement.Statement.TheVariants.{Kind as KindOf}
use Rattle.grammar.specs.Words.{name_letter, all_by, is_text, is_feature}
use Rattle.grammar.specs.Trees.{Tree, Items, item, written, more, Limits, limits, no_limits, label, LawfulLabel, LawfulTree, LawfulItems}
use Rattle.grammar.specs.Told.{Told, index, meet, subject, introduce, say, variable, tell, tell_items, told}
use Rattle.grammar.specs.Scanner.{Part, state, begin, in_kind, comma, closed, step, closing, accepting, here}
use Rattle.grammar.specs.Lines.{Grammar, PastLimits, TooMuch, Line}
use Rattle.reading.specs.declared.reader.Class.{Class}
use Rattle.reading.specs.declared.reader.Class.TheVariants.{Name, Feature, Kind}
use Rattle.reading.specs.declared.reader.Token.{Token}
use Rattle.reading.specs.declared.reader.Mark.{Mark}
use Rattle.reading.specs.declared.reader.Mark.TheVariants.{Open, Close, Comma, Colon, Equals, Greater, Other}
use Rattle.reading.specs.declared.reader.Head.{Head}
use Rattle.reading.specs.declared.reader.Head.TheVariants.{Bare, Described}
use Rattle.reading.specs.declared.reader.Body.{Body}
use Rattle.reading.specs.declared.reader.Body.TheVariants.{Ends, Opens}
use Rattle.reading.specs.declared.reader.Closing.{Closing}
use Rattle.reading.specs.declared.reader.Closing.TheVariants.{More, Done}
use Rattle.reading.specs.declared.reader.Link.{Link}
use Rattle.reading.specs.declared.reader.heads.trees.Looked.{Looked}
use Rattle.reading.specs.declared.notes.Notes.{Notes}
use Rattle.reading.specs.Links.{linked, links}
use Rattle.reading.specs.Notes.{noted, variables, statements}

abbrev pub byte_at : List ℕ → ℕ → Option ℕ
byte_at line i = cond (nat_lt i (length line)) (Some (slice_index line i)) None

abbrev pub mark_of : Option ℕ → Mark
mark_of None = Other
mark_of (Some b) =
    cond (b == 40) Open (cond (b == 41) Close (cond (b == 44) Comma (cond (b == 58) Colon (cond (b == 61) Equals (cond (b == 62) Greater Other)))))

abbrev pub in_class : Class → ℕ → Bool
in_class Name b = name_letter b
in_class Feature b = name_byte b
in_class Kind b = text_byte b

-- the first byte outside the class, and how many bytes of the class stand first
unfoldable pub first_outside : Class → List ℕ → Option ℕ
first_outside class bytes = position (λ b. not (in_class class b)) bytes

unfoldable pub leading : Class → List ℕ → ℕ
leading class bytes = position_or_len (λ b. not (in_class class b)) bytes

-- from i to j the line has the bytes w
pub record Spans (line : List ℕ) (i j : ℕ) (w : List ℕ) : Type 0 where
  pub end : i + length w ≡ j
  pub within : j ≤ length line
  pub bytes : take j line ≡ take i line ++ w

-- w is the longest word of the class from i on
pub record Longest (line : List ℕ) (class : Class) (i : ℕ) (w : List ℕ) : Type 0 where
  pub spans : Spans line i (i + length w) w
  pub all : all_by (in_class class) w ≡ true
  pub stop : i + length w < length line → in_class class (slice_index line (i + length w)) ≡ false

abbrev pub TokenAt : List ℕ → Class → ℕ → Token → Type 0
TokenAt line class i t = Longest line class i t.text.now × (t.place ≡ i)

abbrev pub ShortWord : List ℕ → Class → ℕ → Result Token Refusal → Type 0
ShortWord line class i (Ok t) = TokenAt line class i t × (length t.text.now ≤ 24)
ShortWord line class i (Err e) = (w : List ℕ) × Longest line class i w × (24 < length w) × (row e ≡ record { number = 1; values = 0 ∷ [] })

-- a refusal for reason 1 or 2: a limit is passed, or else the line breaks its grammar
abbrev pub Fails : List ℕ → Refusal → Type 0
Fails line e =
    (PastLimits line × (row e ≡ record { number = 1; values = 0 ∷ [] }))
    ⊎ ((PastLimits line → ⊥) × (p : ℕ) × Breaks Grammar line p × (row e ≡ record { number = 2; values = p ∷ [] }))

-- at i a whole term ends that no byte goes on, with d parentheses open
pub record Ended (line : List ℕ) (i d : ℕ) : Type 0 where
  pub last : Part
  pub state_is : here line i ≡ Some (state last d)
  pub closes : (L : Limits) → i < length line → step L (state last d) (slice_index line i) ≡ closing d (slice_index line i)
  pub inside : 0 < d → accepting (state last d) ≡ false

-- at i a kind text must begin
pub record AtKind (line : List ℕ) (i d : ℕ) : Type 0 where
  pub last : Part
  pub state_is : here line i ≡ Some (state last d)
  pub goes : (L : Limits) (b : ℕ) → text_byte b ≡ true → step L (state last d) b ≡ Some (state in_kind d)
  pub breaks : i < length line → text_byte (slice_index line i) ≡ false → step no_limits (state last d) (slice_index line i) ≡ None
  pub open_end : accepting (state last d) ≡ false

-- the front of a term: a bare name, or what a description has before its kind text
abbrev pub HeadRead : List ℕ → Option Link → ℕ → ℕ → Told → Told → Result Head Refusal → Type 0
HeadRead line from i d before after (Ok (Bare j)) =
    (i < length line) × (n : List ℕ) × LawfulLabel limits (Some n) × Spans line i j n × Ended line j d × (after ≡ meet n (linked from (index n before.names) before))
HeadRead line from i d before after (Ok (Described x j)) =
    (i < length line) × (o : Option (List ℕ)) × LawfulLabel limits o × Spans line i j (label o) × AtKind line j d × (x ≡ subject o before) × (after ≡ introduce o i (linked from x before))
HeadRead line from i d before after (Err e) = Fails line e

-- the kind text of a description, and whether a list follows
abbrev pub BodyRead : List ℕ → ℕ → ℕ → ℕ → Told → Told → Result Body Refusal → Type 0
BodyRead line x i d before after (Ok (Ends j)) =
    (k : List ℕ) × (is_text k ≡ true) × Spans line i j k × Ended line j d × (after ≡ say (KindOf x k) i before)
BodyRead line x i d before after (Ok (Opens j)) =
    (k : List ℕ) × (is_text k ≡ true) × Spans line i j k × Spans line j (j + 1) (40 ∷ []) × (here line (j + 1) ≡ Some (state comma (suc d)))
    × (nat_le (suc d) 16 ≡ true) × (after ≡ say (KindOf x k) i before)
BodyRead line x i d before after (Err e) = Fails line e

-- what comes after an item
abbrev pub ClosingRead : List ℕ → ℕ → ℕ → Result Closing Refusal → Type 0
ClosingRead line i d (Ok More) = Spans line i (i + 1) (44 ∷ []) × (here line (i + 1) ≡ Some (state comma (suc d)))
ClosingRead line i d (Ok Done) = Spans line i (i + 1) (41 ∷ []) × (here line (i + 1) ≡ Some (state closed d))
ClosingRead line i d (Err e) = Fails line e

abbrev pub ArrowRead : List ℕ → ℕ → ℕ → Result (Unit {0}) Refusal → Type 0
ArrowRead line i d (Ok _) = Spans line i (i + 2) (61 ∷ 62 ∷ []) × (here line (i + 2) ≡ Some (state begin d))
ArrowRead line i d (Err e) = Fails line e

-- a feature and its arrow
abbrev pub FeatureRead : List ℕ → ℕ → ℕ → Result Token Refusal → Type 0
FeatureRead line i d (Ok t) =
    (is_feature t.text.now ≡ true) × (nat_le (length t.text.now) 24 ≡ true) × (t.place ≡ i)
    × Spans line i (i + length t.text.now + 2) (t.text.now ++ 61 ∷ 62 ∷ []) × (here line (i + length t.text.now + 2) ≡ Some (state begin d))
FeatureRead line i d (Err e) = Fails line e

-- the words so far in a list, as marks on the declared features
abbrev pub Seen : List (List ℕ) → List (List ℕ) → List Bool → Type 0
Seen features words seen = (w : List ℕ) → listed w features ≡ true → slice_index_or seen (index w features) false ≡ listed w words

-- a feature in its list: its number, whether it is wrong there, and the marks with it
abbrev pub LooksUp : List (List ℕ) → List (List ℕ) → List ℕ → Looked → Type 0
LooksUp features words w r =
    (r.feature ≡ index w features) × (r.wrong ≡ (not (listed w features) || listed w words)) × Seen features (w ∷ words) r.seen

-- how much memory is used where a term begins at i, and where one has ended at i: a term takes five bytes at least
abbrev pub RoomAt : ℕ → Option Link → Notes → Type 0
RoomAt i from n = (variables n ≤ i / 5) × (statements n + links from ≤ 2 * (i / 5))

abbrev pub RoomAfter : ℕ → Notes → Type 0
RoomAfter i n = (variables n ≤ (i + 4) / 5) × (statements n + 1 ≤ 2 * ((i + 4) / 5))

-- a whole term
abbrev pub TermRead : List (List ℕ) → List ℕ → Option Link → ℕ → ℕ → Notes → Notes → Result ℕ Refusal → Type 0
TermRead features line from i d n m (Ok j) =
    (t : Tree) × LawfulTree limits d t × Spans line i j (written t) × Ended line j d
    × (noted line m ≡ tell features t i (linked from (variable t (noted line n)) (noted line n))) × RoomAfter j m
TermRead features line from i d n m (Err e) = Fails line e

-- the items of x from the parenthesis or the comma at i on, to the end of their list
abbrev pub ListRead : List (List ℕ) → List ℕ → ℕ → List (List ℕ) → ℕ → ℕ → Notes → Notes → Result ℕ Refusal → Type 0
ListRead features line x words i d n m (Ok j) =
    (f : List ℕ) × (u : Tree) × (rest : Items) × LawfulItems limits (suc d) (item f u rest) × Spans line (i + 1) j (f ++ 61 ∷ 62 ∷ (written u ++ more rest))
    × (here line j ≡ Some (state closed d)) × (noted line m ≡ tell_items features (item f u rest) x words i (noted line n)) × RoomAfter j m
ListRead features line x words i d n m (Err e) = Fails line e

-- the whole line, as one term
abbrev pub RootRead : List (List ℕ) → List ℕ → Told → Told → Result (Unit {0}) Refusal → Type 0
RootRead features line before after (Ok _) = (t : Tree) × LawfulTree limits 0 t × (written t ≡ line) × (after ≡ tell features t 0 (linked None (variable t before) before))
RootRead features line before after (Err e) = Fails line e

-- reasons 1 to 3, or what the tree of the line says
abbrev pub NotesOf : List (List ℕ) → List ℕ → Result Notes Refusal → Type 0
NotesOf features line (Ok n) = (l : Line line) × (noted line n ≡ told features l.tree) × ((told features l.tree).wrong ≡ None)
NotesOf features line (Err e) =
    (TooMuch line × (row e ≡ record { number = 1; values = 0 ∷ [] }))
    ⊎ (((TooMuch line → ⊥) × (p : ℕ) × Breaks Grammar line p × (row e ≡ record { number = 2; values = p ∷ [] }))
    ⊎ ((l : Line line) × (p : ℕ) × ((told features l.tree).wrong ≡ Some p) × (row e ≡ record { number = 3; values = p ∷ [] })))

-- the same of notes that are filled
abbrev pub NotesIn : List (List ℕ) → List ℕ → Notes → Result (Unit {0}) Refusal → Type 0
NotesIn features line n (Ok _) = NotesOf features line (Ok n)
NotesIn features line n (Err e) = NotesOf features line (Err e)
