-- Performing the statements of a rule one by one.
--
-- A kind statement narrows the kind at the end of its variable. A feature statement follows the slot at the end of its subject: a value
-- that is met for the first time is the cell in the slot, or a new cell that fills it where it is empty; a value that was met before is
-- joined with the cell in the slot, or fills it where it is empty. Two kinds with no common kind are a clash.
use Rattle.std.specs.Prelude.{ℕ, suc, cond, List, [], ◌∷◌, ◌++◌, length, Some, None, Ok, Err, Option, Result, ◌==◌, slice_index}
use Rattle.orders.specs.Meaning.{Meaning}
use Rattle.grammar.specs.declared.statement.Statement.{Statement}
use Rattle.grammar.specs.declared.statement.Statement.TheVariants.{Kind, Feature}
use Rattle.joining.specs.Heap.{Heap, kind, slot, end, push, set_kind, fill}
use Rattle.joining.specs.Joining.{join}

-- a heap, and the cell of each variable that is met
pub record State (K : Type 0) : Type 0 where
  pub heap : Heap K
  pub places : List ℕ

abbrev pub with_heap : {K : Type 0} → State K → Heap K → State K
with_heap s h = record { heap = h; places = s.places }

module _ {K : Type 0} (m : Meaning K) where
  -- the end of a variable's cell
  abbrev pub end_of : State K → ℕ → ℕ
  end_of s x = end m.widest s.heap (slice_index s.places x)

  -- the end e gets the common kind, or there is none
  unfoldable pub narrowed : ℕ → Option K → State K → Option (State K)
  narrowed e None s = None
  narrowed e (Some k) s = Some (with_heap s (set_kind m.widest s.heap e k))

  -- a variable is met in the slot f of the end e
  unfoldable pub met : ℕ → ℕ → Option ℕ → State K → State K
  met e f (Some j) s = record { heap = s.heap; places = s.places ++ j ∷ [] }
  met e f None s = record { heap = fill (push m.widest s.heap) e f s.heap.used; places = s.places ++ s.heap.used ∷ [] }

  -- the cell c is to be in the slot f of the end e
  unfoldable pub tied : ℕ → ℕ → ℕ → Option ℕ → State K → Option (State K)
  tied e f c (Some j) s = elim (join m j c s.heap) [ Some h ↦ Some (with_heap s h) | None ↦ None ]
  tied e f c None s = Some (with_heap s (fill s.heap e f c))

  unfoldable pub perform : Statement K → State K → Option (State K)
  perform (Kind x k) s = narrowed (end_of s x) (m.common (kind m.widest s.heap (end_of s x)) k) s
  perform (Feature x f y) s =
      let e = end_of s x in
      cond (y == length s.places) (Some (met e f (slot s.heap e f) s)) (tied e f (slice_index s.places y) (slot s.heap e f) s)

  -- statements in order, where n came before them; or the number of the first that clashes, from 1
  unfoldable pub perform_from : ℕ → List (Statement K) → State K → Result (State K) ℕ
  perform_from n [] s = Ok s
  perform_from n (t ∷ ts) s = elim (perform t s) [ Some u ↦ perform_from (suc n) ts u | None ↦ Err (suc n) ]

  abbrev pub perform_all : List (Statement K) → State K → Result (State K) ℕ
  perform_all ts s = perform_from 0 ts s
