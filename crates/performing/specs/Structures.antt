-- A case as a structure, and what a statement says of things.
use Rattle.std.specs.Prelude.{◌≡◌, ℕ, cond, Some, None, Option, nat_lt}
use Rattle.orders.specs.Meaning.{Meaning}
use Rattle.grammar.specs.declared.statement.Statement.{Statement}
use Rattle.grammar.specs.declared.statement.Statement.TheVariants.{Kind, Feature}
use Rattle.joining.specs.Heap.{Heap, kind, slot, end}
use Rattle.joining.specs.Interpretation.{Structure}

module _ {K : Type 0} (m : Meaning K) where
  -- the end of what a slot holds
  abbrev pub end_in : Heap K → Option ℕ → Option ℕ
  end_in h (Some j) = Some (end m.widest h j)
  end_in h None = None

  -- the things of a case are its ends, each with the kind there; a filled slot leads to the end of its content
  abbrev pub structure_of : Heap K → Structure K ℕ
  structure_of h = record { kind_of = kind m.widest h; feature = λ f e. cond (nat_lt f h.features) (end_in h (slot h e f)) None }

  -- a statement is true of the things of a term's variables
  abbrev pub Says : {T : Type 0} → Structure K T → (ℕ → T) → Statement K → Type 0
  Says s value (Kind x k) = m.under (s.kind_of (value x)) k
  Says s value (Feature x f y) = s.feature f (value x) ≡ Some (value y)
