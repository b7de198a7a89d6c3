-- Carrying loses nothing: what a slot of the second says, the first says too, up to the pairs that are pending.
use Rattle.std.proofs.Common.{None, Option, Some, ap, arith, inl, inr, length, refl, suc, sym, ℕ, ◌+◌, ◌<◌, ◌∙◌, ◌≡◌, ◌≢◌, ◌≤◌, ◌⊎◌}
use Rattle.std.proofs.lemmas.Bool.{cases_eq}
use Rattle.std.proofs.lemmas.Option.{none-some}
use Rattle.joining.specs.Good.{Good}
use Rattle.joining.specs.Heap.{Heap, put_slot, slot, slot_in}
use Rattle.joining.specs.Joining.{Carried, carry, work}
use Rattle.joining.proofs.Carry.{filled, paired_up}
use Rattle.joining.proofs.Kept.{fill_here, fill_there}
use Rattle.joining.proofs.Ready.{Ready, carries_with}
use Rattle.joining.proofs.Tied.{Tied}

-- the slot f of i has some content of which P holds
abbrev pub Says : {K : Type 0} → Heap K → ℕ → ℕ → (ℕ → Type 0) → Type 0
Says h i f P = (k : ℕ) × (slot h i f ≡ Some k) × P k

module _ {K : Type 0} (top : K) (h : Heap K) (room a b : ℕ) (la : a < h.used) (lb : b < h.used) (apart : a ≢ b) (w : Carried)
    (fits : h.features + length w.pending ≤ room) where
  abbrev before : ℕ → ℕ → Option ℕ
  before = slot_in w.slots h.features

  -- after n features
  pub record Moved (n : ℕ) (v : Carried) : Type 0 where
    pub kept : (i f j : ℕ) → f < h.features → before i f ≡ Some j → slot_in v.slots h.features i f ≡ Some j
    pub second : (f : ℕ) → f < h.features → slot_in v.slots h.features b f ≡ before b f
    pub done : (f j : ℕ) → f < h.features → f < n → before b f ≡ Some j → Says (work h v).heap a f (λ k. (c : ℕ → ℕ) → Tied c v.pending → c k ≡ c j)
    pub tied : (c : ℕ → ℕ) → Tied c v.pending → Tied c w.pending

  moved_none : (f : ℕ) (v : Carried) → f < h.features → Moved f v → slot_in v.slots h.features b f ≡ None → Moved (suc f) v
  moved_none f v l m y = record {
    kept = m.kept;
    second = m.second;
    done = λ n j ln lt e.
        elim (cases_eq n f) [
          | inl q ↦ absurd (none-some j (sym y ∙ m.second f l ∙ (rw q at e)))
          | inr q ↦ m.done n j ln (omega arith) e
        ];
    tied = m.tied;
  }

  moved_pair : (f i j : ℕ) (v : Carried) → f < h.features → Moved f v → slot_in v.slots h.features a f ≡ Some i
      → slot_in v.slots h.features b f ≡ Some j → Moved (suc f) (paired_up i j v)
  moved_pair f i j v l m x y = record {
    kept = m.kept;
    second = m.second;
    done = λ n k ln lt e. elim (cases_eq n f) [
      | inl q ↦ let z : j ≡ k = cc (m.second f l) in (i, rw q x, λ c t. t.0 ∙ ap c z)
      | inr q ↦ let (u, s, t) = m.done n k ln (omega arith) e in (u, s, λ c ts. t c ts.1)
    ];
    tied = λ c t. m.tied c t.1;
  }

  module _ (f j : ℕ) (v : Carried) (l : f < h.features) (good : Good top (work h v).heap) (m : Moved f v) (x : slot_in v.slots h.features a f ≡ None)
      (y : slot_in v.slots h.features b f ≡ Some j) where
    abbrev after : ℕ → ℕ → Option ℕ
    after = slot_in (put_slot v.slots h.features a f j) h.features

    here : after a f ≡ Some j
    here = fill_here top (work h v).heap good a f j la l

    there : (i n : ℕ) → n < h.features → (i ≢ a) ⊎ (n ≢ f) → after i n ≡ slot_in v.slots h.features i n
    there i n ln ne = fill_there top (work h v).heap good a f j la l i n ln ne

    kept_fill : (i n k : ℕ) → n < h.features → before i n ≡ Some k → after i n ≡ Some k
    kept_fill i n k ln e =
        let keeps : (i ≢ a) ⊎ (n ≢ f) → after i n ≡ Some k = λ ne. there i n ln ne ∙ m.kept i n k ln e in
        let never : i ≡ a → n ≡ f → after i n ≡ Some k = λ p q. absurd (none-some k (sym x ∙ (rw (p, q) at (m.kept i n k ln e)))) in
        elim (cases_eq i a) [ inl p ↦ elim (cases_eq n f) [ inl q ↦ never p q | inr q ↦ keeps (inr q) ] | inr p ↦ keeps (inl p) ]

    moved_fill : Moved (suc f) (filled h.features a f j v)
    moved_fill = record {
      kept = kept_fill;
      second = λ n ln. there b n ln (inl (λ q. apart (sym q))) ∙ m.second n ln;
      done = λ n k ln lt e. elim (cases_eq n f) [
        | inl q ↦ let z : j ≡ k = cc (m.second f l) in (j, rw q here, λ c t. ap c z)
        | inr q ↦ let (u, s, t) = m.done n k ln (omega arith) e in (u, there a n ln (inr q) ∙ s, t)
      ];
      tied = m.tied;
    }

  pub moved : Ready top (work h w) → Moved h.features (carry room h.features a b h.features w)
  moved r =
      (carries_with top h room a b la lb w fits Moved
      (λ f v l c m y. moved_none f v l m y)
      (λ f j v l c m x y. moved_fill f j v l c.ready.good m x y)
      (λ f i j v l c m x y. moved_pair f i j v l m x y)
      r (record { kept = λ i f j l e. e; second = λ f l. refl; done = λ f j l lt e. absurd (omega arith); tied = λ c t. t })).1
