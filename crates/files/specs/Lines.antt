-- The lines of a file, and what a file is refused for by one of them. Places count from the file's start.
--
-- A line's own rules judge its bytes without the line feed. In the file `2`, `credit any`, `debit loan`, each with its line feed, the third
-- line begins at 13, its own rules refuse it with 3 at 6, and the file is refused with 3 at 19.
-- Where no line feed ends the line, reasons 1 and 2 stand as for the same bytes with one; in place of all else the file is refused with 2
-- at its end, where the line feed is missing. So a file that ends before its next line begins is refused with 2 at its end.
use Rattle.std.specs.Prelude.{◌≡◌, ℕ, zero, suc, ◌+◌, Bool, cond, List, length, take, drop, Ok, Err, Result, ◌==◌, nat_lt}
use Rattle.std.specs.List.{position_or_len}
use Rattle.refusals.specs.declared.Refusal.{Refusal}
use Rattle.refusals.specs.declared.Refusal.TheVariants.{Limit, Grammar, Word, Kind}

abbrev pub feed : ℕ → Bool
feed b = b == 10

-- how many bytes the line that begins at s has
abbrev pub length_at : List ℕ → ℕ → ℕ
length_at file s = position_or_len feed (drop s file)

-- its bytes
abbrev pub text_at : List ℕ → ℕ → List ℕ
text_at file s = take (length_at file s) (drop s file)

-- whether a line feed ends it
abbrev pub fed : List ℕ → ℕ → Bool
fed file s = nat_lt (s + length_at file s) (length file)

-- a refusal whose place, if it has one, counts from the start of a line that begins at s
abbrev pub from_start : ℕ → Refusal → Refusal
from_start s (Limit p) = Limit (s + p)
from_start s (Grammar p) = Grammar (s + p)
from_start s (Word p) = Word (s + p)
from_start s (Kind p) = Kind (s + p)
from_start s e = e

-- what stands for the outcome of a line that no line feed ends, in a file that ends at `end`
abbrev pub unfed : {A : Type 0} → ℕ → ℕ → Result A Refusal → Refusal
unfed s end (Err (Limit p)) = Limit (s + p)
unfed s end (Err (Grammar p)) = Grammar (s + p)
unfed s end r = Grammar end

-- what is accepted goes on at the next line
abbrev pub goes_on : {A : Type 0} → ℕ → ℕ → Result A Refusal → Result (A × ℕ) Refusal
goes_on s next (Ok x) = Ok (x, next)
goes_on s next (Err e) = Err (from_start s e)

-- what the line that begins at s gives and where the next line begins, or the file's refusal, by the outcome of the line
abbrev pub judged : {A : Type 0} → List ℕ → ℕ → Result A Refusal → Result (A × ℕ) Refusal
judged file s r = cond (fed file s) (goes_on s (s + length_at file s + 1) r) (Err (unfed s (length file) r))

-- what comes next where there is no refusal
abbrev pub Then : {A B : Type 0} → Result A Refusal → (A → Type 0) → Result B Refusal → Type 0
Then (Ok x) Next r = Next x
Then (Err e) Next r = r ≡ Err e

-- n lines from s on: each takes what is there on, as `Takes` says, up to the first refusal; or what is there behind them, and where the
-- next line begins
unfoldable pub Lines : {S : Type 0} → (S → List ℕ → S → Result ℕ Refusal → Type 0) → List ℕ → ℕ → ℕ → S → Result (S × ℕ) Refusal → Type 0
Lines Takes file zero s x r = r ≡ Ok (x, s)
Lines {S} Takes file (suc n) s x r =
    (y : S) × (a : Result ℕ Refusal) × Takes x (text_at file s) y a × Then (judged file s a) (λ p. Lines Takes file n p.1 y r) r
