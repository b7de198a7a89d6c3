-- What only adds, and leaves nothing pending, extends the heap: the ends are then labels.
use Rattle.std.proofs.Common.{[], ap, sym, ℕ, ◌<◌, ◌∙◌, ◌∷◌, ◌≡◌}
use Rattle.orders.specs.Meaning.{Meaning}
use Rattle.joining.specs.Good.{Good}
use Rattle.joining.specs.Heap.{Heap, end}
use Rattle.joining.specs.Law.{Extends}
use Rattle.joining.proofs.Enough.{at}
use Rattle.joining.proofs.Grows.{GoesOn, Grows, Suits}
use Rattle.joining.proofs.Kept.{end_in, end_refers, end_root, root_end}
use Rattle.joining.proofs.Tied.{label_end}

module _ {K : Type 0} (m : Meaning K) (a b : ℕ) (h g : Heap K) (good : Good m.widest h) (after : Good m.widest g)
    (x : Grows m (at h ((a, b) ∷ [])) (at g [])) where
  abbrev label : ℕ → ℕ
  label = end m.widest g

  suits : Suits m label (at g [])
  suits = (λ i l. end_refers m.widest g after i l, tt)

  suited : Suits m label (at h ((a, b) ∷ []))
  suited = x.labels label suits

  -- the end of the end
  settled : (i : ℕ) → i < h.used → label (end m.widest h i) ≡ label i
  settled i l = label_end m.widest h good label suited.0 i l

  on : (i : ℕ) → i < h.used → GoesOn m label h g (end m.widest h i)
  on i l = x.goes_on label suits (end m.widest h i) (end_in m.widest h good i l) (end_root m.widest h good i l)

  on_end : (i : ℕ) (l : i < h.used) → (on i l).root ≡ label i
  on_end i l = sym (root_end m.widest g (on i l).root (on i l).root_end) ∙ (on i l).label ∙ settled i l

  pub joined_one : end m.widest g a ≡ end m.widest g b
  joined_one = suited.1.0

  pub extends : Extends m h g
  extends = record {
    ends = λ i j li lj e. sym (settled i li) ∙ ap label e ∙ settled j lj;
    kinds = λ i l. rw (on_end i l) at (on i l).kinds;
    leads = λ i f j l lf e. rw (on_end i l) at ((on i l).leads f j lf e);
  }
