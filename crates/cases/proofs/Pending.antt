-- The pairs that are still to be joined, as they lie in memory; and the features that are carried, one more.
use Rattle.std.proofs.Common.{◌≡◌, ℕ, ◌+◌, ◌-◌, ◌<◌, ◌≤◌, [], ◌∷◌, List, length, get_or, set, take, reverse, refl, sym, ap, ◌∙◌, add-one, arith}
use Rattle.std.proofs.lemmas.List.{take_more, take_more_set, reverse-append, length-reverse, length-take-le}
use Rattle.std.proofs.lemmas.Bool.{lt-ltb, le-ltb, cond-true, cond-false}
use Rattle.joining.specs.Heap.{slot_in}
use Rattle.joining.specs.Joining.{Carried, add_pair, carry_one, carry}
use Rattle.cases.specs.Memory.{latest}

pub latest_put : (ps : List (ℕ × ℕ)) (n : ℕ) (p : ℕ × ℕ) → n < length ps → latest (set ps n p) (n + 1) ≡ p ∷ latest ps n
latest_put ps n p l = ap reverse (take_more_set ps n p l) ∙ reverse-append (take n ps) (p ∷ [])

pub latest_taken : (ps : List (ℕ × ℕ)) (n : ℕ) (d : ℕ × ℕ) → 0 < n → n ≤ length ps → latest ps n ≡ get_or ps (n - 1) d ∷ latest ps (n - 1)
latest_taken ps n d z l =
    let e : n ≡ n - 1 + 1 = omega arith in
    let k : n - 1 < length ps = omega arith in
    ap (latest ps) e ∙ ap reverse (take_more ps (n - 1) d k) ∙ reverse-append (take (n - 1) ps) (get_or ps (n - 1) d ∷ [])

latest_length : (ps : List (ℕ × ℕ)) (n : ℕ) → n ≤ length ps → length (latest ps n) ≡ n
latest_length ps n l = length-reverse (take n ps) ∙ length-take-le n ps l

module _ (room : ℕ) (p : ℕ × ℕ) (ps : List (ℕ × ℕ)) (n : ℕ) (within : n ≤ room) (fits : room ≤ length ps) where
  pub add_full : n ≡ room → latest ps n ≡ add_pair room p (latest ps n)
  unfolding add_pair
  add_full e = sym (cond-false _ _ _ (le-ltb (length (latest ps n)) room (omega (arith, latest_length ps n (omega arith)))))

  pub add_more : (n ≡ room → ⊥) → latest (set ps n p) (n + 1) ≡ add_pair room p (latest ps n)
  unfolding add_pair
  add_more ne =
      latest_put ps n p (omega arith)
      ∙ sym (cond-true _ _ _ (lt-ltb (length (latest ps n)) room (omega (arith, latest_length ps n (omega arith)))))

module _ (room features first second : ℕ) (w : Carried) where
  pub carry_none : carry room features first second 0 w ≡ w
  unfolding carry
  carry_none = refl

  -- one feature more, after those below it
  pub carry_more : (f : ℕ) → carry room features first second (f + 1) w
      ≡ carry_one room features first f (slot_in (carry room features first second f w).slots features first f) (slot_in (carry room features first second f w).slots features second f) (carry room features first second f w)
  unfolding carry
  carry_more f = ap (λ (n : ℕ). carry room features first second n w) (add-one f)
