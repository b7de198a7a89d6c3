-- What the steps of reading a file give. A middle layer: no contract of a public call cites it.
use Rattle.std.specs.Prelude.{◌≡◌, ℕ, ◌≤◌, Bool, not, List, Ok, Err, Result}
use Rattle.refusals.specs.declared.Refusal.{Refusal}
use Rattle.refusals.specs.declared.Refusal.TheVariants.{Limit, Grammar, Word, Kind}
use Rattle.files.specs.Lines.{text_at, judged}
use Rattle.files.specs.Counts.{digit, Counts}

-- the place of a refusal, if it has one, is n at most
abbrev pub Near : ℕ → Refusal → Type 0
Near n (Limit p) = p ≤ n
Near n (Grammar p) = p ≤ n
Near n (Word p) = p ≤ n
Near n (Kind p) = p ≤ n
Near n e = Unit {0}

-- a byte that is no digit
abbrev pub other : ℕ → Bool
other b = not (digit b)

-- the line that begins at s is taken: its outcome and where the next line begins, or the file's refusal
abbrev pub LineRead : {S : Type 0} → (S → List ℕ → S → Result ℕ Refusal → Type 0) → List ℕ → ℕ → S → S → Result (ℕ × ℕ) Refusal → Type 0
LineRead Takes file s before after r = (a : Result ℕ Refusal) × Takes before (text_at file s) after a × (r ≡ judged file s a)

-- where lines are over, with what is there by then
abbrev pub with_state : {S : Type 0} → S → Result ℕ Refusal → Result (S × ℕ) Refusal
with_state x (Ok s) = Ok (x, s)
with_state x (Err e) = Err e

-- the count of a section that begins at s, and where its lines begin
abbrev pub CountRead : ℕ → List ℕ → ℕ → Result (ℕ × ℕ) Refusal → Type 0
CountRead limit file s r = (a : Result ℕ Refusal) × Counts limit (text_at file s) a × (r ≡ judged file s a)

-- the same with another reading of what is there
abbrev pub mapped : {A B : Type 0} → (A → B) → Result (A × ℕ) Refusal → Result (B × ℕ) Refusal
mapped f (Ok p) = Ok (f p.0, p.1)
mapped f (Err e) = Err e
