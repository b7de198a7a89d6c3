-- Joining only adds: labels that suit what comes after suit what was before, and each end goes on in an end that says as much.
use Rattle.std.proofs.Common.{List, Some, ap, arith, length, refl, sym, ℕ, ◌<◌, ◌∙◌, ◌∷◌, ◌≡◌}
use Rattle.orders.specs.Meaning.{Meaning}
use Rattle.joining.specs.Heap.{Heap, end, kind, refers, slot}
use Rattle.joining.specs.Joining.{Work}
use Rattle.joining.proofs.Enough.{at}
use Rattle.joining.proofs.Moved.{Says}
use Rattle.joining.proofs.Ready.{Ready}
use Rattle.joining.proofs.Tied.{Labels, Tied, label_end}

module _ {K : Type 0} (m : Meaning K) where
  -- labels that suit the coreferences and the pending pairs
  abbrev pub Suits : (ℕ → ℕ) → Work K → Type 0
  Suits c w = Labels m.widest c w.heap × Tied c w.pending

  -- the end r of h goes on in an end of g that says as much
  pub record GoesOn (c : ℕ → ℕ) (h g : Heap K) (r : ℕ) : Type 0 where
    pub root : ℕ
    pub root_in : root < g.used
    pub root_end : refers m.widest g root ≡ root
    pub label : c root ≡ c r
    pub kinds : m.under (kind m.widest g root) (kind m.widest h r)
    pub leads : (f j : ℕ) → f < h.features → slot h r f ≡ Some j → Says g root f (λ k. c k ≡ c j)

  pub record Grows (w v : Work K) : Type 0 where
    pub used : v.heap.used ≡ w.heap.used
    pub features : v.heap.features ≡ w.heap.features
    pub cells : length v.heap.cells ≡ length w.heap.cells
    pub labels : (c : ℕ → ℕ) → Suits c v → Suits c w
    pub goes_on : (c : ℕ → ℕ) → Suits c v → (r : ℕ) → r < w.heap.used → refers m.widest w.heap r ≡ r → GoesOn c w.heap v.heap r

  goes_nowhere : (c : ℕ → ℕ) (h : Heap K) (r : ℕ) → r < h.used → refers m.widest h r ≡ r → GoesOn c h h r
  goes_nowhere c h r l e = record { root = r; root_in = l; root_end = e; label = refl; kinds = m.itself (kind m.widest h r); leads = λ f j lf q. (j, q, refl) }

  goes_further : (c : ℕ → ℕ) (h g k : Heap K) (r : ℕ) → g.features ≡ h.features → (x : GoesOn c h g r) → GoesOn c g k x.root → GoesOn c h k r
  goes_further c h g k r e x y = record {
    root = y.root;
    root_in = y.root_in;
    root_end = y.root_end;
    label = y.label ∙ x.label;
    kinds = m.through (kind m.widest k y.root) (kind m.widest g x.root) (kind m.widest h r) y.kinds x.kinds;
    leads = λ f j lf q. let (i, s, t) = x.leads f j lf q in let (n, u, v) = y.leads f i (omega arith) s in (n, u, v ∙ t);
  }

  pub grows_none : (w : Work K) → Grows w w
  grows_none w = record { used = refl; features = refl; cells = refl; labels = λ c s. s; goes_on = λ c s r l e. goes_nowhere c w.heap r l e }

  pub grows_on : (w v u : Work K) → Grows w v → Grows v u → Grows w u
  grows_on w v u x y = record {
    used = y.used ∙ x.used;
    features = y.features ∙ x.features;
    cells = y.cells ∙ x.cells;
    labels = λ c s. x.labels c (y.labels c s);
    goes_on = λ c s r l e. let g = x.goes_on c (y.labels c s) r l e in goes_further c w.heap v.heap u.heap r x.features g (y.goes_on c s g.root g.root_in g.root_end);
  }

  pub grows_same : (h : Heap K) (p : ℕ × ℕ) (ps : List (ℕ × ℕ)) → Ready m.widest (at h (p ∷ ps)) → end m.widest h p.0 ≡ end m.widest h p.1
      → Grows (at h (p ∷ ps)) (at h ps)
  grows_same h p ps r e = record {
    used = refl;
    features = refl;
    cells = refl;
    labels = λ c s. (s.0, (sym (label_end m.widest h r.good c s.0 p.0 r.inside.0) ∙ ap c e ∙ label_end m.widest h r.good c s.0 p.1 r.inside.1, s.1));
    goes_on = λ c s i l q. goes_nowhere c h i l q;
  }
