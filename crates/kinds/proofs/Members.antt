-- Sets of numbers as bits and as rising lists.
use Rattle.std.proofs.Common.{◌≡◌, ℕ, zero, suc, ◌+◌, ◌^◌, ◌<◌, ◌≤◌, Bool, true, false, cond, eqb, ltb, ◌⊎◌, List, [], ◌∷◌, length, filter, sym, refl, ap, ◌∙◌, inl, inr, arith}
use lib.Bits.{or_lt}
use Rattle.std.specs.List.{range_with_len}
use Rattle.std.proofs.lemmas.Nat.{pow_pos, pow_below}
use Rattle.std.proofs.lemmas.Bool.{and_parts, and_from, or_cases, or_left, or_right, eqb-true, eq-eqb, ltb-true, lt-ltb, both_ways, cases_Bool, cases_eq}
use Rattle.declarations.specs.Declarations.{among, all_below}
use Rattle.declarations.specs.Rows.{bit, members, mask_of}
use Rattle.declarations.proofs.Binary.{bit_past, same_bits}
use Rattle.declarations.proofs.Grown.{bit_mask}

module _ (p : ℕ → Bool) where
  -- one number in front of those that pass
  kept_step : (a : ℕ) (xs : List ℕ) → (p a ≡ true) ⊎ (p a ≡ false) → (filter p (a ∷ xs) ≡ a ∷ filter p xs) ⊎ ((filter p (a ∷ xs) ≡ filter p xs) × (p a ≡ false))
  kept_step a xs (inl t) = inl (ap (λ b. cond b (a ∷ filter p xs) (filter p xs)) t)
  kept_step a xs (inr f) = inr (ap (λ b. cond b (a ∷ filter p xs) (filter p xs)) f, f)

  kept_passes : (a n w : ℕ) → among w (filter p (range_with_len a n)) ≡ true → (p w ≡ true) × (w < a + n)
  unfolding among
  kept_passes a zero w m = absurd (both_ways false refl m)
  kept_passes a (suc n) w m =
      elim (cases_Bool (p a)) [
        | inl t ↦
            elim (or_cases (eqb w a) _ (sym (ap (among w) (ap (λ b. cond b (a ∷ filter p (range_with_len (a + 1) n)) (filter p (range_with_len (a + 1) n))) t)) ∙ m)) [
              | inl e ↦ (ap p (eqb-true w a e) ∙ t, omega (arith, eqb-true w a e))
              | inr h ↦ let q = kept_passes (a + 1) n w h in (q.0, omega (arith, q.1))
            ]
        | inr f ↦
            let q = kept_passes (a + 1) n w (sym (ap (among w) (ap (λ b. cond b (a ∷ filter p (range_with_len (a + 1) n)) (filter p (range_with_len (a + 1) n))) f)) ∙ m) in
            (q.0, omega (arith, q.1))
      ]

  kept-has : (a n w : ℕ) → a ≤ w → w < a + n → p w ≡ true → among w (filter p (range_with_len a n)) ≡ true
  unfolding among
  kept-has a zero w l m t = absurd (omega arith)
  kept-has a (suc n) w l m t =
      elim (cases_eq w a) [
        | inl e ↦
            ap (among w) (ap (λ b. cond b (a ∷ filter p (range_with_len (a + 1) n)) (filter p (range_with_len (a + 1) n))) (ap p (sym e) ∙ t))
            ∙ or_left (eqb w a) _ (eq-eqb w a e)
        | inr ne ↦
            let h = kept-has (a + 1) n w (omega arith) (omega arith) t in
            elim (cases_Bool (p a)) [
              | inl s ↦ ap (among w) (ap (λ b. cond b (a ∷ filter p (range_with_len (a + 1) n)) (filter p (range_with_len (a + 1) n))) s) ∙ or_right (eqb w a) _ h
              | inr f ↦ ap (among w) (ap (λ b. cond b (a ∷ filter p (range_with_len (a + 1) n)) (filter p (range_with_len (a + 1) n))) f) ∙ h
            ]
      ]

-- the same test, the same numbers
pub kept_same : (p q : ℕ → Bool) (a n : ℕ) → ((k : ℕ) → a ≤ k → k < a + n → p k ≡ q k) → filter p (range_with_len a n) ≡ filter q (range_with_len a n)
kept_same p q a zero h = refl
kept_same p q a (suc n) h =
    let rest = kept_same p q (a + 1) n (λ k l m. h k (omega arith) (omega arith)) in
    ap (λ b. cond b (a ∷ filter p (range_with_len (a + 1) n)) (filter p (range_with_len (a + 1) n))) (h a (omega arith) (omega arith))
    ∙ ap (λ xs. cond (q a) (a ∷ xs) xs) rest

all_below_from : (n : ℕ) (xs : List ℕ) → ((w : ℕ) → among w xs ≡ true → w < n) → all_below n xs ≡ true
unfolding all_below among
all_below_from n [] h = refl
all_below_from n (x ∷ xs) h =
    and_from _ _ (lt-ltb x n (h x (or_left (eqb x x) _ (eq-eqb x x refl)))) (all_below_from n xs (λ w m. h w (or_right (eqb w x) _ m)))

pub members_below : (n mask : ℕ) → all_below n (members n mask) ≡ true
members_below n mask = all_below_from n (members n mask) (λ w m. omega (arith, (kept_passes (bit mask) 0 n w m).1))

among-length : (w : ℕ) (xs : List ℕ) → among w xs ≡ true → ltb 0 (length xs) ≡ true
unfolding among
among-length w [] m = absurd (both_ways false refl m)
among-length w (x ∷ xs) m = lt-ltb 0 (length (x ∷ xs)) (omega arith)

pub members-some : (n mask k : ℕ) → k < n → bit mask k ≡ true → ltb 0 (length (members n mask)) ≡ true
members-some n mask k l b = among-length k (members n mask) (kept-has (bit mask) 0 n k (omega arith) (omega arith) b)

mask_below : (n : ℕ) (xs : List ℕ) → all_below n xs ≡ true → mask_of xs < 2 ^ n
unfolding mask_of all_below
mask_below n [] a = pow_pos n
mask_below n (x ∷ xs) a =
    let p = and_parts (ltb x n) (all_below n xs) a in
    or_lt n (2 ^ x) (mask_of xs) (pow_below x n (ltb-true x n p.0)) (mask_below n xs p.1)

-- the bits of the numbers whose bits are set
pub mask_members : (n mask : ℕ) → mask < 2 ^ n → mask_of (members n mask) ≡ mask
mask_members n mask l =
    same_bits n (mask_of (members n mask)) mask (mask_below n (members n mask) (members_below n mask)) l (λ j h.
    bit_mask (members n mask) j ∙ same j h)
  where
    same : (j : ℕ) → j < n → among j (members n mask) ≡ bit mask j
    same j h =
        elim (cases_Bool (bit mask j)) [
          | inl t ↦ kept-has (bit mask) 0 n j (omega arith) (omega arith) t ∙ sym t
          | inr f ↦
              elim (cases_Bool (among j (members n mask))) [
                | inl m ↦ absurd (both_ways (bit mask j) f (kept_passes (bit mask) 0 n j m).0)
                | inr g ↦ g ∙ sym f
              ]
        ]

-- numbers whose bits cannot be set need not be looked at
module _ (p : ℕ → Bool) where
  none_kept : (a m : ℕ) → ((j : ℕ) → a ≤ j → p j ≡ false) → filter p (range_with_len a m) ≡ []
  none_kept a zero h = refl
  none_kept a (suc m) h =
      ap (λ b. cond b (a ∷ filter p (range_with_len (a + 1) m)) (filter p (range_with_len (a + 1) m))) (h a (omega arith))
      ∙ none_kept (a + 1) m (λ j l. h j (omega arith))

  kept_front : (a n m : ℕ) → n ≤ m → ((j : ℕ) → a + n ≤ j → p j ≡ false) → filter p (range_with_len a m) ≡ filter p (range_with_len a n)
  kept_front a zero m l h = none_kept a m (λ j k. h j (omega arith))
  kept_front a (suc n) zero l h = absurd (omega arith)
  kept_front a (suc n) (suc m) l h =
      ap (λ xs. cond (p a) (a ∷ xs) xs) (kept_front (a + 1) n m (omega arith) (λ j k. h j (omega arith)))

pub members_few : (n mask : ℕ) → mask < 2 ^ n → n ≤ 64 → members 64 mask ≡ members n mask
members_few n mask l few = kept_front (bit mask) 0 n 64 few (λ j k. bit_past n mask j l (omega arith))
