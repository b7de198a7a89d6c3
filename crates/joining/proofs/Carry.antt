-- What holds after the features are carried, feature by feature, where there is room for each pair.
use Rattle.std.proofs.Common.{List, None, Option, Some, arith, length, refl, suc, zero, ℕ, ◌<◌, ◌∷◌, ◌≡◌, ◌≤◌}
use Rattle.std.proofs.lemmas.Bool.{cond-true, lt-ltb}
use Rattle.joining.specs.Heap.{put_slot, slot_in}
use Rattle.joining.specs.Joining.{Carried, add_pair, carry, carry_one}

abbrev pub filled : ℕ → ℕ → ℕ → ℕ → Carried → Carried
filled features a f j v = record { slots = put_slot v.slots features a f j; pending = v.pending }

abbrev pub paired_up : ℕ → ℕ → Carried → Carried
paired_up i j v = record { slots = v.slots; pending = (i, j) ∷ v.pending }

pub add_pair_fits : (room : ℕ) (p : ℕ × ℕ) (ps : List (ℕ × ℕ)) → length ps < room → add_pair room p ps ≡ p ∷ ps
unfolding add_pair
add_pair_fits room p ps l = cond-true _ _ _ (lt-ltb (length ps) room l)

-- at each feature that is carried so many pairs are pending at most
module _ (room features a b : ℕ) (P : ℕ → Carried → Type 0)
    (few : (f : ℕ) (v : Carried) → f < features → P f v → length v.pending < room)
    (none : (f : ℕ) (v : Carried) → f < features → P f v → slot_in v.slots features b f ≡ None → P (suc f) v)
    (fills : (f j : ℕ) (v : Carried) → f < features → P f v
    → slot_in v.slots features a f ≡ None → slot_in v.slots features b f ≡ Some j → P (suc f) (filled features a f j v))
    (pairs : (f i j : ℕ) (v : Carried) → f < features → P f v
    → slot_in v.slots features a f ≡ Some i → slot_in v.slots features b f ≡ Some j → P (suc f) (paired_up i j v)) where
  one : (f : ℕ) (v : Carried) (mine other : Option ℕ) → f < features → P f v → slot_in v.slots features a f ≡ mine
      → slot_in v.slots features b f ≡ other → P (suc f) (carry_one room features a f mine other v)
  unfolding carry_one
  one f v mine None l p x y = none f v l p y
  one f v None (Some j) l p x y = fills f j v l p x y
  one f v (Some i) (Some j) l p x y = rw (add_pair_fits room (i, j) v.pending (few f v l p)) (pairs f i j v l p x y)

  pub carried : (n : ℕ) (w : Carried) → n ≤ features → P zero w → P n (carry room features a b n w)
  unfolding carry
  carried zero w l p = p
  carried (suc n) w l p =
      let v = carry room features a b n w in
      one n v (slot_in v.slots features a n) (slot_in v.slots features b n) (omega arith) (carried n w (omega arith) p) refl refl
