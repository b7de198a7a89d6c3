-- A run that reached a call's memory goes on by the call, and the law holds before it and after it.
use Rattle.std.proofs.Common.{◌≡◌, ℕ, [], ◌∷◌, ap, subst}
use Rattle.orders.specs.Meaning.{Meaning}
use Rattle.joining.specs.Heap.{Heap, opened}
use Rattle.osf.specs.Runs.{Case, History, Made, LawfulCall, no_calls, after_call, run}
use Rattle.osf.specs.Law.{Law}
use Rattle.osf.specs.Reached.{Reached, case_at, LawAt, Opens}
use Rattle.osf.proofs.Running.{law_of_runs}

module _ {K : Type 0} (m : Meaning K) where
  pub law_reached : (c : Case K) → Reached m c → Law m ℕ c
  law_reached c r = subst (Law m ℕ) r.is (law_of_runs m ℕ r.cells r.features r.calls r.lawful)

  pub reached_after : (made : Made K) → LawfulCall made.call → (c : Case K) → Reached m c → Reached m (after_call m made.call made.places made.lent c)
  unfolding run
  reached_after made term c r =
      record {
        cells = r.cells;
        features = r.features;
        calls = made ∷ r.calls;
        lawful = (term, r.lawful);
        is = ap (after_call m made.call made.places made.lent) r.is;
      }

  pub law_at : (made : Made K) → LawfulCall made.call → (h g : Heap K) → ((t : History K) → (after_call m made.call made.places made.lent (case_at m h t)).heap ≡ g) → LawAt m made h g
  law_at made term h g leaves t r =
      record {
        leaves = leaves t;
        reached = reached_after made term (case_at m h t) r;
        before = law_reached (case_at m h t) r;
        after = law_reached _ (reached_after made term (case_at m h t) r);
      }

  pub law_opened : (n f : ℕ) (h : Heap K) → opened m.widest n f ≡ h → Opens m n f h
  unfolding run
  law_opened n f h e =
      let r : Reached m (case_at m h no_calls) =
      record { cells = n; features = f; calls = []; lawful = tt; is = ap (λ g. case_at m g no_calls) e } in
      record { leaves = e; reached = r; law = law_reached (case_at m h no_calls) r }
