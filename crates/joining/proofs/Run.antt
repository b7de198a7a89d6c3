-- What every step keeps holds at the end: nothing is then pending, or two kinds have clashed.
use Rattle.std.proofs.Common.{List, None, Option, Some, [], arith, false, length, refl, suc, zero, ℕ, ◌+◌, ◌==◌, ◌∷◌, ◌≡◌, ◌≤◌}
use Rattle.std.proofs.lemmas.Bool.{cond_both, eqb-false, eqb-true}
use Rattle.orders.specs.Meaning.{Meaning}
use Rattle.joining.specs.Heap.{Heap, end, kind}
use Rattle.joining.specs.Joining.{Work, bind, carry, join_all, join_ends, join_pair, work}
use Rattle.joining.proofs.Enough.{Enough, at, bind_carries, bind_fits, enough_bind, enough_same, none_pending, start}
use Rattle.joining.proofs.Kept.{Apart, end_in, end_root}
use Rattle.joining.proofs.Ready.{Ready}

-- the two ends of a pair, which are not one, and the common kind of what stands there
pub record Met {K : Type 0} (m : Meaning K) (h : Heap K) (p : ℕ × ℕ) (a b : ℕ) (o : Option K) : Type 0 where
  pub first : end m.widest h p.0 ≡ a
  pub second : end m.widest h p.1 ≡ b
  pub two : Apart m.widest h a b
  pub meet : m.common (kind m.widest h a) (kind m.widest h b) ≡ o

pub met_ends : {K : Type 0} (m : Meaning K) (h : Heap K) (p : ℕ × ℕ) (ps : List (ℕ × ℕ)) → Ready m.widest (at h (p ∷ ps))
    → (end m.widest h p.0 == end m.widest h p.1) ≡ false
    → Met m h p (end m.widest h p.0) (end m.widest h p.1) (m.common (kind m.widest h (end m.widest h p.0)) (kind m.widest h (end m.widest h p.1)))
met_ends m h p ps r f =
    record {
      first = refl;
      second = refl;
      two =
          record {
            first_in = end_in m.widest h r.good p.0 r.inside.0;
            second_in = end_in m.widest h r.good p.1 r.inside.1;
            first_end = end_root m.widest h r.good p.0 r.inside.0;
            second_end = end_root m.widest h r.good p.1 r.inside.1;
            apart = eqb-false _ _ f;
          };
      meet = refl;
    }

-- a pair that is bound, with room for what that makes pending
pub record Bound {K : Type 0} (m : Meaning K) (room : ℕ) (h : Heap K) (p : ℕ × ℕ) (ps : List (ℕ × ℕ)) (a b : ℕ) (k : K) : Type 0 where
  pub ready : Ready m.widest (at h (p ∷ ps))
  pub ends : Met m h p a b (Some k)
  pub fits : h.features + length ps ≤ room

-- the work after a pair is bound
abbrev pub after_bind : {K : Type 0} → Meaning K → ℕ → Heap K → List (ℕ × ℕ) → ℕ → ℕ → K → Work K
after_bind m room h ps a b k =
    let g = bind m.widest a b k h in
    work g (carry room h.features a b h.features (start g ps))

module _ {K : Type 0} (m : Meaning K) (room : ℕ) (P : Work K → Type 0) where
  -- a pair whose ends have no common kind
  pub record Clashes : Type 0 where
    pub heap : Heap K
    pub pair : ℕ × ℕ
    pub rest : List (ℕ × ℕ)
    pub first : ℕ
    pub second : ℕ
    pub ready : Ready m.widest (at heap (pair ∷ rest))
    pub kept : P (at heap (pair ∷ rest))
    pub ends : Met m heap pair first second None

  abbrev pub Ends : Option (Heap K) → Type 0
  Ends (Some h) = Ready m.widest (at h []) × P (at h [])
  Ends None = Clashes

  abbrev pub After : ℕ → Option (Work K) → Type 0
  After n (Some w) = Ready m.widest w × P w × Enough m.widest n w
  After n None = Clashes

  module _
      (same : (h : Heap K) (p : ℕ × ℕ) (ps : List (ℕ × ℕ)) → Ready m.widest (at h (p ∷ ps)) → P (at h (p ∷ ps)) → end m.widest h p.0 ≡ end m.widest h p.1 → P (at h ps))
      (binds : (h : Heap K) (p : ℕ × ℕ) (ps : List (ℕ × ℕ)) (a b : ℕ) (k : K) → Bound m room h p ps a b k → P (at h (p ∷ ps)) → P (after_bind m room h ps a b k))
    where
      module _ (n : ℕ) (turns : suc n ≤ room) (h : Heap K) (p : ℕ × ℕ) (ps : List (ℕ × ℕ)) (r : Ready m.widest (at h (p ∷ ps)))
          (q : P (at h (p ∷ ps))) (e : Enough m.widest (suc n) (at h (p ∷ ps))) where
        after_ends : (a b : ℕ) (o : Option K) → Met m h p a b o → After n (join_ends m room a b o (at h ps))
        unfolding join_ends
        after_ends a b None x = record { heap = h; pair = p; rest = ps; first = a; second = b; ready = r; kept = q; ends = x }
        after_ends a b (Some k) x = (
          (bind_carries m.widest n h p ps room turns r a b k x.two e).ready,
          binds h p ps a b k (record { ready = r; ends = x; fits = bind_fits m.widest n h p ps room turns r a b k x.two e }) q,
          enough_bind m.widest n h p ps room turns r a b k x.two e,
        )

        pub after_pair : After n (join_pair m room p (at h ps))
        unfolding join_pair
        after_pair =
            cond_both (end m.widest h p.0 == end m.widest h p.1) _ _ (After n)
            (λ t. (record { good = r.good; inside = r.inside.2 }, same h p ps r q (eqb-true _ _ t), enough_same m.widest n h p ps e))
            (λ f. after_ends _ _ _ (met_ends m h p ps r f))

      pub run : (n : ℕ) (ps : List (ℕ × ℕ)) (h : Heap K) → n ≤ room → Ready m.widest (at h ps) → P (at h ps) → Enough m.widest n (at h ps)
          → Ends (join_all m room n ps h)
      unfolding join_all
      run zero [] h l r q e = (r, q)
      run zero (p ∷ ps) h l r q e = absurd (none_pending m.widest h p ps r.good e)
      run (suc n) [] h l r q e = (r, q)
      run (suc n) (p ∷ ps) h l r q e =
          (elim (join_pair m room p (at h ps)) as (λ s. After n s → Ends (elim s [ Some w ↦ join_all m room n w.pending w.heap | None ↦ None ])) [
            | Some w ↦ λ x. run n w.pending w.heap (omega arith) x.0 x.1 x.2
            | None ↦ λ x. x
          ])
          (after_pair n l h p ps r q e)
