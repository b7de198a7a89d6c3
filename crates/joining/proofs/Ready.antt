-- A heap in order with pending pairs of cells in use, and what carrying the features leaves of that.
use Rattle.std.proofs.Common.{List, None, Some, [], arith, length, suc, zero, ℕ, ◌+◌, ◌<◌, ◌∷◌, ◌≡◌, ◌≤◌}
use Rattle.joining.specs.Good.{Good}
use Rattle.joining.specs.Heap.{Heap, slot_in}
use Rattle.joining.specs.Joining.{Carried, Work, carry, work}
use Rattle.joining.proofs.Carry.{carried, filled, paired_up}
use Rattle.joining.proofs.Kept.{good_fill}

-- pairs of numbers below u
abbrev pub Inside : ℕ → List (ℕ × ℕ) → Type 0
Inside u [] = Unit {0}
Inside u (p ∷ ps) = (p.0 < u) × (p.1 < u) × Inside u ps

pub record Ready {K : Type 0} (top : K) (w : Work K) : Type 0 where
  pub good : Good top w.heap
  pub inside : Inside w.heap.used w.pending

-- what n features leave of slots and pending pairs
pub record Carries {K : Type 0} (top : K) (h : Heap K) (w : Carried) (n : ℕ) (v : Carried) : Type 0 where
  pub ready : Ready top (work h v)
  pub few : length v.pending ≤ n + length w.pending

module _ {K : Type 0} (top : K) (h : Heap K) (room a b : ℕ) (la : a < h.used) (lb : b < h.used) (w : Carried)
    (fits : h.features + length w.pending ≤ room) where
  -- what stands in a slot of a cell in use
  holds : (n f i j : ℕ) (v : Carried) → f < h.features → Carries top h w n v → i < h.used → slot_in v.slots h.features i f ≡ Some j → j < h.used
  holds n f i j v l c li e = c.ready.good.held i f j li l e

  carries_none : (f : ℕ) (v : Carried) → Carries top h w f v → Carries top h w (suc f) v
  carries_none f v c = record { ready = c.ready; few = omega arith }

  carries_fill : (f j : ℕ) (v : Carried) → f < h.features → Carries top h w f v → slot_in v.slots h.features b f ≡ Some j
      → Carries top h w (suc f) (filled h.features a f j v)
  carries_fill f j v l c y = record {
    ready = record { good = good_fill top (work h v).heap c.ready.good a f j la l (holds f f b j v l c lb y); inside = c.ready.inside };
    few = omega arith;
  }

  carries_pair : (f i j : ℕ) (v : Carried) → f < h.features → Carries top h w f v → slot_in v.slots h.features a f ≡ Some i
      → slot_in v.slots h.features b f ≡ Some j → Carries top h w (suc f) (paired_up i j v)
  carries_pair f i j v l c x y = record {
    ready = record { good = c.ready.good; inside = (holds f f a i v l c la x, holds f f b j v l c lb y, c.ready.inside) };
    few = omega arith;
  }

  -- what holds after the features are carried, with the above at hand at each
  module _ (P : ℕ → Carried → Type 0)
      (none : (f : ℕ) (v : Carried) → f < h.features → Carries top h w f v → P f v → slot_in v.slots h.features b f ≡ None → P (suc f) v)
      (fills : (f j : ℕ) (v : Carried) → f < h.features → Carries top h w f v → P f v
      → slot_in v.slots h.features a f ≡ None → slot_in v.slots h.features b f ≡ Some j → P (suc f) (filled h.features a f j v))
      (pairs : (f i j : ℕ) (v : Carried) → f < h.features → Carries top h w f v → P f v
      → slot_in v.slots h.features a f ≡ Some i → slot_in v.slots h.features b f ≡ Some j → P (suc f) (paired_up i j v))
    where
      pub carries_with : Ready top (work h w) → P zero w
          → Carries top h w h.features (carry room h.features a b h.features w) × P h.features (carry room h.features a b h.features w)
      carries_with r q =
          carried room h.features a b (λ n v. Carries top h w n v × P n v)
          (λ f v l c. omega (arith, c.0.few))
          (λ f v l c y. (carries_none f v c.0, none f v l c.0 c.1 y))
          (λ f j v l c x y. (carries_fill f j v l c.0 y, fills f j v l c.0 c.1 x y))
          (λ f i j v l c x y. (carries_pair f i j v l c.0 x y, pairs f i j v l c.0 c.1 x y))
          h.features w (omega arith) (record { ready = r; few = omega arith }, q)

  pub carries : Ready top (work h w) → Carries top h w h.features (carry room h.features a b h.features w)
  carries r = (carries_with (λ n v. Unit {0}) (λ f v l c q y. tt) (λ f j v l c q x y. tt) (λ f i j v l c q x y. tt) r tt).0
