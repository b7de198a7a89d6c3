-- A case that was opened, and one that a run goes on to.
use Rattle.std.proofs.Common.{◌≡◌, ℕ, ◌*◌, ◌&&◌, Bool, true, false, not, cond, length, None, Ok, Err, Option, nat_lt, nat_le, refl, ap, subst, ◌∙◌, arith}
use Rattle.std.proofs.lemmas.Bool.{and_parts, not-true}
use Rattle.std.proofs.lemmas.List.{length-replicate}
use Rattle.refusals.specs.declared.Refusal.TheVariants.{Memory as Short}
use Rattle.orders.specs.Meaning.{Meaning}
use Rattle.joining.specs.Heap.{Heap, new_cells, opened}
use Rattle.joining.proofs.Opening.{opened_good}
use Rattle.osf.specs.Calls.{Lent, too_short_for, opens}
use Rattle.osf.specs.Runs.{History, Made, after_call}
use Rattle.osf.specs.Reached.{Reached, GoesOn, case_at}
use Rattle.cases.specs.declared.case.Case.{Case}
use Rattle.cases.specs.Calls.{as_opened}

module _ {K : Type 0} (m : Meaning K) where
  new_cells_length : (n : ℕ) → length (new_cells m.widest n) ≡ n
  new_cells_length n = omega (arith, (opened_good m.widest n 1).size, length-replicate {A = Option ℕ} (n * 1) None)

  -- what was answered to an opening
  opened_by : (b : Bool) (h : Heap K) (case : Case) → Ok case ≡ as_opened (cond b (Ok h) (Err Short)) → (b ≡ true) × (case ≡ record { cells = length h.cells; features = h.features; used = h.used })
  opened_by true h case e = (refl, cc)
  opened_by false h case e = absurd cc

  -- where it was accepted, this heap was opened, and it lies in the memory whole
  pub opens_as : (f : ℕ) (l : Lent) (case : Case) → Ok case ≡ as_opened (opens m.widest 256 f l)
      → (opens m.widest 256 f l ≡ Ok (opened m.widest 256 f)) × (too_short_for case.cells case.features l ≡ false)
  opens_as f l case e =
      let (sizes, is) = opened_by ((nat_lt 0 256 && nat_le 256 1024) && (nat_le f 16 && not (too_short_for 256 f l))) (opened m.widest 256 f) case e in
      let long = (and_parts (nat_le f 16) _ (and_parts (nat_lt 0 256 && nat_le 256 1024) _ sizes).1).1 in (
        ap (λ b. cond b (Ok (opened m.widest 256 f)) (Err Short)) sizes,
        ap (λ (c : Case). too_short_for c.cells c.features l) is ∙ ap (λ n. too_short_for n f l) (new_cells_length 256) ∙ not-true _ long,
      )

  -- a run that goes on to a heap has reached it
  pub reached_by : (made : Made K) (before after : Heap K) (t : History K) → GoesOn m made before after t → (s : History K) × Reached m (case_at m after s)
  reached_by made before after t goes =
      let c = after_call m made.call made.places made.lent (case_at m before t) in
      (c.history, subst (λ h. Reached m (case_at m h c.history)) goes.leaves goes.reached)
