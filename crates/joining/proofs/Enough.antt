-- The pairs that a join may take are enough, and so is the room for them: each bind brings a pair for each feature at most, and takes a
-- cell away from the ends.
use Rattle.std.proofs.Common.{List, ap, arith, length, mul-le-mul_left, suc, zero, ℕ, ◌*◌, ◌+◌, ◌∷◌, ◌≡◌, ◌≤◌}
use Rattle.joining.specs.Good.{Good, away}
use Rattle.joining.specs.Heap.{Heap, refers}
use Rattle.joining.specs.Joining.{Carried, Work, bind, carry, work}
use Rattle.joining.proofs.Follow.{away_below}
use Rattle.joining.proofs.Kept.{Apart, bind_away, bind_length, good_bind}
use Rattle.joining.proofs.Ready.{Carries, Ready, carries}

-- n turns are enough
abbrev pub Enough : {K : Type 0} → K → ℕ → Work K → Type 0
Enough top n w = length w.pending + w.heap.features * length w.heap.cells ≤ n + w.heap.features * away (refers top w.heap) w.heap.used

abbrev pub at : {K : Type 0} → Heap K → List (ℕ × ℕ) → Work K
at h ps = record { heap = h; pending = ps }

abbrev pub start : {K : Type 0} → Heap K → List (ℕ × ℕ) → Carried
start h ps = record { slots = h.slots; pending = ps }

-- there are never more cells that refer elsewhere than cells
away_room : {K : Type 0} (top : K) (h : Heap K) → Good top h → h.features * away (refers top h) h.used ≤ h.features * length h.cells
away_room top h g =
    let l : away (refers top h) h.used ≤ length h.cells = omega (arith, away_below (refers top h) h.used, g.room) in
    mul-le-mul_left h.features l

-- with no turn left, none is pending
pub none_pending : {K : Type 0} (top : K) (h : Heap K) (p : ℕ × ℕ) (ps : List (ℕ × ℕ)) → Good top h → Enough top zero (at h (p ∷ ps)) → ⊥
none_pending top h p ps g e = omega (arith, away_room top h g)

module _ {K : Type 0} (top : K) (n : ℕ) (h : Heap K) (p : ℕ × ℕ) (ps : List (ℕ × ℕ)) where
  pub enough_same : Enough top (suc n) (at h (p ∷ ps)) → Enough top n (at h ps)
  enough_same e = omega arith

  module _ (room : ℕ) (turns : suc n ≤ room) (r : Ready top (at h (p ∷ ps))) (a b : ℕ) (k : K) (x : Apart top h a b) where
    abbrev pub bound : Heap K
    bound = bind top a b k h

    pub bind_ready : Ready top (at bound ps)
    bind_ready = record { good = good_bind top h r.good a b k x; inside = r.inside.2 }

    module _ (e : Enough top (suc n) (at h (p ∷ ps))) where
      more : h.features * away (refers top bound) h.used ≡ h.features * away (refers top h) h.used + h.features
      more = rw (bind_away top h r.good a b k x) (omega arith)

      -- there is room for a pair for each feature
      pub bind_fits : h.features + length ps ≤ room
      bind_fits = omega (arith, more, away_room top bound bind_ready.good, bind_length top a b k h, ap (λ l. h.features * l) (bind_length top a b k h))

      pub bind_carries : Carries top bound (start bound ps) h.features (carry room h.features a b h.features (start bound ps))
      bind_carries = carries top bound room a b x.first_in x.second_in (start bound ps) bind_fits bind_ready

      pub enough_bind : Enough top n (work bound (carry room h.features a b h.features (start bound ps)))
      enough_bind = omega (arith, more, bind_carries.few, ap (λ l. h.features * l) (bind_length top a b k h))
