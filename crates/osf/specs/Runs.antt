-- Calls on a case one after the other, from its opening on, and what stands after them.
use Rattle.std.specs.Prelude.{◌≡◌, ℕ, suc, ◌+◌, ◌-◌, true, cond, List, [], ◌∷◌, ◌++◌, length, take, Ok, Err, Result, ◌==◌, nat_lt, slice_index}
use Rattle.orders.specs.Meaning.{Meaning}
use Rattle.grammar.specs.declared.statement.Statement.{Statement}
use Rattle.grammar.specs.Lawful.{lawful}
use Rattle.joining.specs.Heap.{Heap, opened}
use Rattle.osf.specs.Facts.{Fact, one, facts_of}
use Rattle.osf.specs.Calls.{Lent, Left, variables_of, enters, matches, joins}

-- a call with what is given to it. Terms are given by their statements.
pub data Call (K : Type 0) : Type 0 where
  enter : List (Statement K) → Call K
  match_rule : List (Statement K) → ℕ → Call K
  join : ℕ → ℕ → Call K
  ask_kind : ℕ → Call K
  ask_feature : ℕ → ℕ → Call K

-- and the memory that it is lent: what the place list holds, and how long the other memories are
pub record Made (K : Type 0) : Type 0 where
  pub call : Call K
  pub places : List ℕ
  pub lent : Lent

-- only the statements of terms are entered and matched
abbrev pub OfTerm : {K : Type 0} → List (Statement K) → Type 0
OfTerm ss = (n : ℕ) × (lawful n ss ≡ true)

abbrev pub LawfulCall : {K : Type 0} → Call K → Type 0
LawfulCall (enter ss) = OfTerm ss
LawfulCall (match_rule ss i) = OfTerm ss
LawfulCall (join i j) = Unit {0}
LawfulCall (ask_kind i) = Unit {0}
LawfulCall (ask_feature i f) = Unit {0}

-- what stands after accepted calls: how many variables they had, each call its own; their facts; the cell of each variable; and for
-- each cell in use its variable, the one that it was pushed for
pub record History (K : Type 0) : Type 0 where
  pub variables : ℕ
  pub facts : List (Fact K)
  pub cell_of : ℕ → ℕ
  pub variable_of : ℕ → ℕ

abbrev pub no_calls : {K : Type 0} → History K
no_calls = record { variables = 0; facts = []; cell_of = λ x. 0; variable_of = λ i. 0 }

-- the first variable of a call that has this cell; its variables are numbered from x on
unfoldable pub first_with : ℕ → ℕ → List ℕ → ℕ
first_with i x [] = x
first_with i x (j ∷ js) = cond (i == j) x (first_with i (suc x) js)

-- after an accepted call with variables of its own, which have the cells `places`; it pushed the cells from `used` on
abbrev pub with_term : {K : Type 0} → History K → List (Fact K) → List ℕ → ℕ → History K
with_term h facts places used =
    record {
      variables = h.variables + length places;
      facts = h.facts ++ facts;
      cell_of = λ x. cond (nat_lt x h.variables) (h.cell_of x) (slice_index places (x - h.variables));
      variable_of = λ i. cond (nat_lt i used) (h.variable_of i) (first_with i h.variables places);
    }

abbrev pub with_fact : {K : Type 0} → History K → Fact K → History K
with_fact h f = record { variables = h.variables; facts = h.facts ++ f ∷ []; cell_of = h.cell_of; variable_of = h.variable_of }

-- a case, and what stands of it
pub record Case (K : Type 0) : Type 0 where
  pub heap : Heap K
  pub history : History K

-- the standing facts with those of the first s statements of a rule that is matched at the cell i
abbrev pub with_rule : {K : Type 0} → Case K → List (Statement K) → ℕ → ℕ → List (Fact K)
with_rule c ss i s = one c.history.variables (c.history.variable_of i) ∷ facts_of c.history.variables (take s ss)

-- the history after an answer: a refusal adds nothing
abbrev pub if_accepted : {K A E : Type 0} → Result A E → History K → History K → History K
if_accepted (Ok v) h g = g
if_accepted (Err e) h g = h

module _ {K : Type 0} (m : Meaning K) where
  -- what a call with variables of its own leaves
  abbrev pub after_term : Case K → List (Statement K) → List (Fact K) → Left K → Case K
  after_term c ss facts l =
      record {
        heap = l.heap;
        history = if_accepted l.answer c.history (with_term c.history facts (take (variables_of ss) l.places) c.heap.used);
      }

  -- what a call leaves of a case
  unfoldable pub after_call : Call K → List ℕ → Lent → Case K → Case K
  after_call (enter ss) places l c = after_term c ss (facts_of c.history.variables ss) (enters m l ss places c.heap)
  after_call (match_rule ss i) places l c = after_term c ss (with_rule c ss i (length ss)) (matches m l ss i places c.heap)
  after_call (join i j) places l c =
      let left = joins m l i j c.heap in
      record {
        heap = left.heap;
        history = if_accepted left.answer c.history (with_fact c.history (one (c.history.variable_of i) (c.history.variable_of j)));
      }
  after_call (ask_kind i) places l c = c
  after_call (ask_feature i f) places l c = c

  -- a case of n cells and f features after calls, the last one first
  unfoldable pub run : ℕ → ℕ → List (Made K) → Case K
  run n f [] = record { heap = opened m.widest n f; history = no_calls }
  run n f (made ∷ calls) = after_call made.call made.places made.lent (run n f calls)
