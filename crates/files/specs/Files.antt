-- What a file says, or why it is refused.
--
-- A file has four sections: the kinds past `any`, the features, the entries and the rules. Each begins with a line that tells how many
-- lines it has: at most 63 kinds, 16 features, 200 entries, 200 rules. The list is closed at the end of its section. Behind the last line
-- nothing follows. The first cause is the one that is told: over 60,000 bytes, and then line by line.
use Rattle.std.specs.Prelude.{◌≡◌, ℕ, cond, List, [], ◌∷◌, ◌++◌, length, Ok, Err, Result, ◌==◌, nat_lt}
use Rattle.refusals.specs.declared.Refusal.{Refusal}
use Rattle.refusals.specs.declared.Refusal.TheVariants.{Limit, Grammar}
use Rattle.refusals.specs.Table.{row}
use Rattle.orders.specs.Texts.{Texts}
use Rattle.declarations.specs.Declarations.{Declaration, any, NoWidest, First}
use Rattle.declarations.specs.Lines as kind_lines
use Rattle.grammar.specs.declared.statement.Said.{Said}
use Rattle.grammar.specs.Lines as term_lines
use Rattle.features.specs.Lines as feature_lines
use Rattle.kinds.specs.Lists.{Closing, listing}
use Rattle.files.specs.Lines.{text_at, judged, Then, Lines}
use Rattle.files.specs.Counts.{Counts}

-- a section that begins at s: its count, and so many lines
unfoldable pub Section : {S : Type 0} → (S → List ℕ → S → Result ℕ Refusal → Type 0) → ℕ → List ℕ → ℕ → S → Result (S × ℕ) Refusal → Type 0
Section Takes limit file s x r =
    (a : Result ℕ Refusal) × Counts limit (text_at file s) a × Then (judged file s a) (λ p. Lines Takes file p.0 p.1 x r) r

-- a closed list of the declared kinds; or the first two kinds with no widest kind under both, refused with 5
abbrev pub Closed : List Declaration → Result Closing Refusal → Type 0
Closed ds (Ok l) = (listing l ≡ ds) × ((a b : ℕ) → NoWidest ds a b → ⊥)
Closed ds (Err e) = (a : ℕ) × (b : ℕ) × First ds a b × (row e ≡ record { number = 5; values = a ∷ b ∷ [] })

-- a term more is read of a line; a line has at most 399 statements, and there is memory for as many
abbrev pub TakesTerm : {K : Type 0} → Texts K → List (List ℕ) → List (List (Said K)) → List ℕ → List (List (Said K)) → Result ℕ Refusal → Type 0
TakesTerm m features terms line after (Ok n) = (us : List (Said _)) × term_lines.Accepts m features 399 line us × (after ≡ terms ++ us ∷ [])
TakesTerm m features terms line after (Err e) = term_lines.Refuses m features 399 line e

abbrev pub short : List ℕ → Result (Unit {0}) Refusal
short file = cond (nat_lt 60000 (length file)) (Err (Limit 0)) (Ok tt)

-- nothing follows the last line
abbrev pub over : List ℕ → ℕ → Result (Unit {0}) Refusal
over file s = cond (s == length file) (Ok tt) (Err (Grammar s))

pub record Contents (K : Type 0) : Type 0 where
  pub list : Closing
  pub features : List (List ℕ)
  pub entries : List (List (Said K))
  pub rules : List (List (Said K))

-- what follows a closed list, from s on; `texts` are those of its order
abbrev pub Lists : {K : Type 0} → (Closing → Texts K) → List ℕ → ℕ → Closing → Result (Contents K) Refusal → Type 0
Lists {K} texts file s list r =
    (f : Result (List (List ℕ) × ℕ) Refusal) × Section feature_lines.Declares 16 file s [] f × Then f (λ fs.
    (e : Result (List (List (Said K)) × ℕ) Refusal) × Section (TakesTerm (texts list) fs.0) 200 file fs.1 [] e × Then e (λ es.
    (u : Result (List (List (Said K)) × ℕ) Refusal) × Section (TakesTerm (texts list) fs.0) 200 file es.1 [] u × Then u (λ us.
    Then (over file us.1) (λ _. r ≡ Ok (record { list = list; features = fs.0; entries = es.0; rules = us.0 })) r) r) r) r

abbrev pub File : {K : Type 0} → (Closing → Texts K) → List ℕ → Result (Contents K) Refusal → Type 0
File texts file r =
    Then (short file) (λ _.
    (k : Result (List Declaration × ℕ) Refusal) × Section (kind_lines.Declares 64) 63 file 0 (any ∷ []) k × Then k (λ ks.
    (l : Result Closing Refusal) × Closed ks.0 l × Then l (λ list. Lists texts file ks.1 list r) r) r) r
