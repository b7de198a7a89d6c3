-- The codes of a term do what its statements say, in every case whose heap is in order and has room for the term's variables.
use Rattle.std.specs.Prelude.{◌≡◌, ℕ, ◌+◌, ◌-◌, ◌<◌, ◌≤◌, true, List, [], ◌∷◌, length, Ok, Result}
use Rattle.orders.specs.Meaning.{Meaning}
use Rattle.grammar.specs.declared.statement.Statement.{Statement}
use Rattle.grammar.specs.Lawful.{lawful, depths}
use Rattle.joining.specs.Heap.{Heap, push}
use Rattle.joining.specs.Good.{Good}
use Rattle.performing.specs.Performing.{State, perform_all}
use Rattle.instructions.specs.declared.instruction.Mode.TheVariants.{Read}
use Rattle.instructions.specs.Codes.{kinds, entry_code, read_code, write_code}
use Rattle.instructions.specs.Steps.{entered, run}

-- the cell c is the root's
abbrev pub rooted : {K : Type 0} → Heap K → ℕ → State K
rooted h c = record { heap = h; places = c ∷ [] }

-- no register is set
abbrev pub unset : {K : Type 0} → Heap K → State K
unset h = record { heap = h; places = [] }

-- as many turns as there are instructions
abbrev pub most_turns : {K : Type 0} → List (Statement K) → ℕ
most_turns ss = length (read_code ss) + length (write_code ss)

module _ {K : Type 0} (m : Meaning K) where
  -- the code of an entry
  abbrev pub enter : List (Statement K) → Heap K → State K
  enter ss h = entered m (kinds ss) (entry_code ss) (unset h)

  -- the codes of a rule at the cell c, n turns at most
  abbrev pub match_at : List (Statement K) → ℕ → Heap K → ℕ → Result (State K) ℕ
  match_at ss n h c = run m (kinds ss) (read_code ss) (write_code ss) n (record { state = rooted h c; mode = Read; at = 0 })

  -- statements over n features, and a heap in order that has these and cells for so many variables
  pub record Suits (n : ℕ) (ss : List (Statement K)) (h : Heap K) (variables : ℕ) : Type 0 where
    pub statements : lawful n ss ≡ true
    pub heap : Good m.widest h
    pub features : n ≤ h.features
    pub cells : h.used + variables ≤ length h.cells

  -- the code of an entry performs the statements one by one from a new cell on, the root's; and none of them clashes
  abbrev pub EntryLaw : Type 0
  EntryLaw =
      (n : ℕ) (ss : List (Statement K)) (h : Heap K) → Suits n ss h (length (depths ss))
      → perform_all m ss (rooted (push m.widest h) h.used) ≡ Ok (enter ss h)

  -- the codes of a rule perform the statements one by one from the cell c on, the root's; or clash at the same statement
  abbrev pub RuleLaw : Type 0
  RuleLaw =
      (n : ℕ) (ss : List (Statement K)) (h : Heap K) (c : ℕ) → c < h.used → Suits n ss h (length (depths ss) - 1)
      → match_at ss (most_turns ss) h c ≡ perform_all m ss (rooted h c)

  -- and they end before their turns are used up: more would change nothing
  abbrev pub TurnsLaw : Type 0
  TurnsLaw =
      (n : ℕ) (ss : List (Statement K)) (h : Heap K) (c more : ℕ) → c < h.used → Suits n ss h (length (depths ss) - 1)
      → match_at ss (most_turns ss + more) h c ≡ match_at ss (most_turns ss) h c

  pub record CodesLaw : Type 0 where
    pub entry : EntryLaw
    pub rule : RuleLaw
    pub turns : TurnsLaw
