-- What a heap says, a heap that extends it says too; and one that extends that.
use Rattle.std.proofs.Common.{◌≡◌, ℕ, ◌<◌, ◌≤◌, Bool, true, false, cond, Some, None, Option, refl, ap, ◌∙◌, arith, nat_lt}
use Rattle.std.proofs.lemmas.Bool.{ltb-true, lt-ltb}
use Rattle.std.proofs.lemmas.Option.{none-some}
use Rattle.orders.specs.Meaning.{Meaning}
use Rattle.grammar.specs.declared.statement.Statement.{Statement}
use Rattle.grammar.specs.declared.statement.Statement.TheVariants.{Kind, Feature}
use Rattle.joining.specs.Heap.{Heap, slot, end}
use Rattle.joining.specs.Good.{Good}
use Rattle.joining.specs.Law.{Extends}
use Rattle.joining.proofs.Kept.{end_in}
use Rattle.performing.specs.Structures as structures
use Rattle.performing.specs.Structures.{structure_of, Says}

-- a statement's variables are among the first p
abbrev pub Within : {K : Type 0} → ℕ → Statement K → Type 0
Within p (Kind x k) = x < p
Within p (Feature x f y) = (x < p) × (y < p)

module _ {K : Type 0} (m : Meaning K) where
  -- what a slot of an end of a heap in order holds is in use
  pub held_in : (h : Heap K) → Good m.widest h → (x f j : ℕ) → x < h.used → f < h.features → slot h (end m.widest h x) f ≡ Some j → j < h.used
  held_in h g x f j l lf e = g.held (end m.widest h x) f j (end_in m.widest h g x l) lf e

  -- a feature of the case leads to a thing exactly where a slot holds a cell with this end
  pub leads_in : (h : Heap K) (e f z : ℕ) → (structure_of m h).feature f e ≡ Some z → (f < h.features) × ((j : ℕ) × (slot h e f ≡ Some j) × (end m.widest h j ≡ z))
  leads_in h e f z q = go (nat_lt f h.features) refl (slot h e f) refl q where
    go : (b : Bool) → nat_lt f h.features ≡ b → (o : Option ℕ) → slot h e f ≡ o → cond b (structures.end_in m h o) None ≡ Some z → (f < h.features) × ((j : ℕ) × (slot h e f ≡ Some j) × (end m.widest h j ≡ z))
    go true l (Some j) s q = (ltb-true _ _ l, (j, s, cc))
    go true l None s q = absurd (none-some z q)
    go false l o s q = absurd (none-some z q)

  pub leads_to : (h : Heap K) (e f j : ℕ) → f < h.features → slot h e f ≡ Some j → (structure_of m h).feature f e ≡ Some (end m.widest h j)
  leads_to h e f j l s = rw (lt-ltb f h.features l, s) refl

  -- a statement that is true of the ends of cells in use stays true of their ends
  pub still_says : (h g : Heap K) → Good m.widest h → h.used ≤ g.used → g.features ≡ h.features → Extends m h g → (cell : ℕ → ℕ) (p : ℕ) → ((x : ℕ) → x < p → cell x < h.used)
      → (t : Statement K) → Within p t → Says m (structure_of m h) (λ x. end m.widest h (cell x)) t
      → Says m (structure_of m g) (λ x. end m.widest g (cell x)) t
  still_says h g gh le same e cell p c (Kind x k) b q = m.through _ _ _ (e.kinds (cell x) (c x b)) q
  still_says h g gh le same e cell p c (Feature x f y) b q =
      let (l, (j, s, t)) = leads_in h (end m.widest h (cell x)) f (end m.widest h (cell y)) q in
      let lx : cell x < h.used = c x b.0 in
      let lj : j < h.used = held_in h gh (cell x) f j lx l s in
      let (n, u, v) = e.leads (cell x) f j lx l s in
      leads_to g (end m.widest g (cell x)) f n (omega (arith, same, l)) u ∙ ap Some (v ∙ e.ends j (cell y) lj (c y b.1) t)
