-- What narrowing an end and tying a feature come to, by what was found.
use Rattle.std.proofs.Common.{◌≡◌, ℕ, Bool, true, false, List, Some, None, Option, sym, ap, subst, ◌∙◌}
use Rattle.orders.specs.Meaning.{Meaning}
use Rattle.joining.specs.declared.cell.Cell.{Cell}
use Rattle.joining.specs.Heap.{Heap, kind_in, put_kind, put_slot}
use Rattle.joining.specs.Joining.{join}
use Rattle.performing.specs.Performing.{State, with_heap, narrowed, tied}
use Rattle.cases.specs.Memory.{heap_in, Joined}
use Rattle.cases.specs.Machines.{Comes}

module _ {K : Type 0} (m : Meaning K) (e : ℕ) (s : State K) where
  narrowed_by : (mine k : K) (o : Option K) → mine ≡ kind_in m.widest s.heap.cells e → o ≡ m.common mine k → narrowed m e (m.common (kind_in m.widest s.heap.cells e) k) s ≡ narrowed m e o s
  narrowed_by mine k o p q = sym (ap (λ (o : Option K). narrowed m e o s) (q ∙ ap (λ (x : K). m.common x k) p))

  pub narrowed_some : (mine k common : K) → mine ≡ kind_in m.widest s.heap.cells e → Some common ≡ m.common mine k
      → (cells : List (Cell K)) → cells ≡ put_kind m.widest s.heap.cells e common
      → narrowed m e (m.common (kind_in m.widest s.heap.cells e) k) s ≡ Some (with_heap s (heap_in s.heap.used s.heap.features cells s.heap.slots))
  unfolding narrowed
  narrowed_some mine k common p q cells c =
      narrowed_by mine k (Some common) p q
      ∙ sym (ap (λ (x : List (Cell K)). Some (with_heap s (heap_in s.heap.used s.heap.features x s.heap.slots))) c)

  pub narrowed_none : (mine k : K) → mine ≡ kind_in m.widest s.heap.cells e → None ≡ m.common mine k
      → narrowed m e (m.common (kind_in m.widest s.heap.cells e) k) s ≡ None
  unfolding narrowed
  narrowed_none mine k p q = narrowed_by mine k None p q

  module _ (f c : ℕ) where
    pub tied_none : (o : Option ℕ) → None ≡ o → (slots : List (Option ℕ)) → slots ≡ put_slot s.heap.slots s.heap.features e f c
        → tied m e f c o s ≡ Some (with_heap s (heap_in s.heap.used s.heap.features s.heap.cells slots))
    unfolding tied
    tied_none o q slots p =
        sym (ap (λ (o : Option ℕ). tied m e f c o s) q)
        ∙ sym (ap (λ (x : List (Option ℕ)). Some (with_heap s (heap_in s.heap.used s.heap.features s.heap.cells x))) p)

    joined_by : (j : ℕ) (h : Heap K) (r : Bool) → Joined (join m j c s.heap) h r → Comes (tied m e f c (Some j) s) (with_heap s h) r
    unfolding tied
    joined_by j h true q = ap (λ (o : Option (Heap K)). elim o [ Some g ↦ Some (with_heap s g) | None ↦ None ]) q
    joined_by j h false q = ap (λ (o : Option (Heap K)). elim o [ Some g ↦ Some (with_heap s g) | None ↦ None ]) q

    pub tied_some : (j : ℕ) (o : Option ℕ) → Some j ≡ o → (h : Heap K) (r : Bool) → Joined (join m j c s.heap) h r → Comes (tied m e f c o s) (with_heap s h) r
    tied_some j o q h r x = let P : Option ℕ → Type 0 = λ o. Comes (tied m e f c o s) (with_heap s h) r in subst P q (joined_by j h r x)
