-- Joining two cells of a case: what stands then, and when there is a clash.
use Rattle.std.proofs.Common.{ℕ, ◌<◌, [], ◌∷◌, ◌++◌, refl, sym, ap, ◌∙◌, arith}
use Rattle.std.proofs.ByRecursion.{All-append}
use Rattle.orders.specs.Meaning.{Meaning}
use Rattle.joining.specs.Heap.{Heap, end}
use Rattle.joining.specs.Law.{Joins, Never}
use Rattle.osf.specs.Facts.{Fact, one, Interpretation}
use Rattle.osf.specs.Runs.{Case, with_fact}
use Rattle.osf.proofs.Holding.{all_still}
use Rattle.osf.proofs.Standing.{Stands, TellsAll}
use Rattle.osf.proofs.Telling.{before, all_right}

-- the fact that two cells are one
abbrev pub one_fact : {K : Type 0} → Case K → ℕ → ℕ → Fact K
one_fact c i j = one (c.history.variable_of i) (c.history.variable_of j)

abbrev pub paired : {K : Type 0} → Case K → ℕ → ℕ → Heap K → Case K
paired c i j g = record { heap = g; history = with_fact c.history (one_fact c i j) }

module _ {K : Type 0} (m : Meaning K) (T : Type 0) (c : Case K) (k : Stands m c) (i j : ℕ) (li : i < c.heap.used) (lj : j < c.heap.used) where
  pub stands_paired : (g : Heap K) → Joins T m i j c.heap g → Stands m (paired c i j g)
  stands_paired g h =
      record {
        good = h.good;
        cells = λ x l. omega (arith, h.used, k.cells x l);
        known = λ y l. k.known y (omega (arith, h.used, l));
        own = λ y l. k.own y (omega (arith, h.used, l));
        among = All-append _ c.history.facts _ k.among ((k.known i li, k.known j lj), tt);
        true_of =
            All-append _ c.history.facts _
            (all_still m c.heap g k.good (omega (arith, h.used)) h.features h.extends c.history.cell_of c.history.cell_of c.history.variables k.cells (λ x l. refl) c.history.facts k.among k.true_of)
            (ap (end m.widest g) (k.own i li) ∙ h.one ∙ ap (end m.widest g) (sym (k.own j lj)), tt);
      }

  pub tells_paired : TellsAll m T c → (g : Heap K) → Joins T m i j c.heap g → TellsAll m T (paired c i j g)
  tells_paired tells g h v =
      let old = tells (before m c.history.facts _ v) in
      let same = all_right _ c.history.facts _ v.true_of in
      record { sound = h.sound v.structure (λ y. v.thing (c.history.variable_of y)) old.sound same.0; values = old.values }

  -- a clash: no interpretation has the two as one
  pub never_paired : TellsAll m T c → Never T m i j c.heap → Interpretation T m (c.history.facts ++ one_fact c i j ∷ []) → ⊥
  never_paired tells never v =
      let old = tells (before m c.history.facts _ v) in
      never v.structure (λ y. v.thing (c.history.variable_of y)) old.sound (all_right _ c.history.facts _ v.true_of).0
