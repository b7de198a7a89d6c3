-- The law of a run at one call, whatever calls came before it.
use Rattle.std.specs.Prelude.{◌≡◌, ℕ, List}
use Rattle.std.specs.List.{AllByRecursion}
use Rattle.orders.specs.Meaning.{Meaning}
use Rattle.joining.specs.Heap.{Heap, opened}
use Rattle.osf.specs.Runs.{Case, History, Made, LawfulCall, no_calls, after_call, run}
use Rattle.osf.specs.Law.{Law}

module _ {K : Type 0} (m : Meaning K) where
  -- lawful calls leave this case
  pub record Reached (c : Case K) : Type 0 where
    pub cells : ℕ
    pub features : ℕ
    pub calls : List (Made K)
    pub lawful : AllByRecursion (λ a. LawfulCall a.call) calls
    pub is : run m cells features calls ≡ c

  abbrev pub case_at : Heap K → History K → Case K
  case_at h t = record { heap = h; history = t }

  -- the run goes on by this call from the heap h to the heap g, and the law holds before it, which speaks of its answer, and after it
  pub record GoesOn (made : Made K) (h g : Heap K) (t : History K) : Type 0 where
    pub leaves : (after_call m made.call made.places made.lent (case_at h t)).heap ≡ g
    pub reached : Reached (after_call m made.call made.places made.lent (case_at h t))
    pub before : Law m ℕ (case_at h t)
    pub after : Law m ℕ (after_call m made.call made.places made.lent (case_at h t))

  -- the law at a call, for every history with which its memory was reached
  abbrev pub LawAt : Made K → Heap K → Heap K → Type 0
  LawAt made h g = (t : History K) → Reached (case_at h t) → GoesOn made h g t

  -- the law at an opening
  pub record Opens (n f : ℕ) (h : Heap K) : Type 0 where
    pub leaves : opened m.widest n f ≡ h
    pub reached : Reached (case_at h no_calls)
    pub law : Law m ℕ (case_at h no_calls)
