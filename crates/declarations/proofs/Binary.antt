-- The bits of a number.
use Rattle.std.proofs.Common.{◌≡◌, ℕ, zero, suc, ◌/◌, ◌%◌, ◌^◌, ◌<◌, ◌≤◌, true, false, ◌&&◌, ◌||◌, eqb, ◌⊎◌, sym, refl, ap, ◌∙◌, ap₂, inl, inr, one-mul, pow-suc, arith}
use lib.Bits.{bit_and, bit_or, and_mod, and_shr, or_mod, or_shr, shifted_half, shifted_even}
use lib.Count.{count_trailing_zeros, under}
use Rattle.std.proofs.lemmas.Nat.{mod_below, div-add-mod'}
use Rattle.std.proofs.lemmas.Bool.{cases_eq, eqb-true, eq-eqb, ne_eqb}
use Rattle.declarations.specs.Rows.{bit}

pub parity : (a : ℕ) → (a % 2 ≡ 0) ⊎ (a % 2 ≡ 1)
parity a = elim (cases_eq (a % 2) 0) [ inl e ↦ inl e | inr n ↦ inr (omega (arith, mod_below a 2 (omega arith))) ]

pub bit-none : (j : ℕ) → bit 0 j ≡ false
unfolding bit
bit-none zero = refl
bit-none (suc j) = bit-none j

and_low : (x y : ℕ) → (x ≡ 0) ⊎ (x ≡ 1) → (y ≡ 0) ⊎ (y ≡ 1) → eqb (bit_and x y) 1 ≡ (eqb x 1 && eqb y 1)
and_low x y (inl e) (inl f) = ap₂ (λ u v. eqb (bit_and u v) 1) e f ∙ sym (ap₂ (λ u v. eqb u 1 && eqb v 1) e f)
and_low x y (inl e) (inr f) = ap₂ (λ u v. eqb (bit_and u v) 1) e f ∙ sym (ap₂ (λ u v. eqb u 1 && eqb v 1) e f)
and_low x y (inr e) (inl f) = ap₂ (λ u v. eqb (bit_and u v) 1) e f ∙ sym (ap₂ (λ u v. eqb u 1 && eqb v 1) e f)
and_low x y (inr e) (inr f) = ap₂ (λ u v. eqb (bit_and u v) 1) e f ∙ sym (ap₂ (λ u v. eqb u 1 && eqb v 1) e f)

or_low : (x y : ℕ) → (x ≡ 0) ⊎ (x ≡ 1) → (y ≡ 0) ⊎ (y ≡ 1) → eqb (bit_or x y) 1 ≡ (eqb x 1 || eqb y 1)
or_low x y (inl e) (inl f) = ap₂ (λ u v. eqb (bit_or u v) 1) e f ∙ sym (ap₂ (λ u v. eqb u 1 || eqb v 1) e f)
or_low x y (inl e) (inr f) = ap₂ (λ u v. eqb (bit_or u v) 1) e f ∙ sym (ap₂ (λ u v. eqb u 1 || eqb v 1) e f)
or_low x y (inr e) (inl f) = ap₂ (λ u v. eqb (bit_or u v) 1) e f ∙ sym (ap₂ (λ u v. eqb u 1 || eqb v 1) e f)
or_low x y (inr e) (inr f) = ap₂ (λ u v. eqb (bit_or u v) 1) e f ∙ sym (ap₂ (λ u v. eqb u 1 || eqb v 1) e f)

pub bit-bit_and : (a b j : ℕ) → bit (bit_and a b) j ≡ (bit a j && bit b j)
unfolding bit
bit-bit_and a b zero = ap (λ v. eqb v 1) (and_mod a b 1) ∙ and_low (a % 2) (b % 2) (parity a) (parity b)
bit-bit_and a b (suc j) = ap (λ v. bit v j) (and_shr a b 1) ∙ bit-bit_and (a / 2) (b / 2) j

pub bit-bit_or : (a b j : ℕ) → bit (bit_or a b) j ≡ (bit a j || bit b j)
unfolding bit
bit-bit_or a b zero = ap (λ v. eqb v 1) (or_mod a b 1) ∙ or_low (a % 2) (b % 2) (parity a) (parity b)
bit-bit_or a b (suc j) = ap (λ v. bit v j) (or_shr a b 1) ∙ bit-bit_or (a / 2) (b / 2) j

eqb-suc : (j n : ℕ) → eqb j n ≡ eqb (suc j) (suc n)
eqb-suc j n =
    elim (cases_eq j n) [
      | inl e ↦ eq-eqb j n e ∙ sym (eq-eqb (suc j) (suc n) (ap suc e))
      | inr ne ↦ ne_eqb j n ne ∙ sym (ne_eqb (suc j) (suc n) (λ e. ne (omega arith)))
    ]

half_pow : (n : ℕ) → 2 ^ suc n / 2 ≡ 2 ^ n
half_pow n = rw (← one-mul (2 ^ suc n), shifted_half 1 n) (one-mul (2 ^ n))

even_pow : (n : ℕ) → 2 ^ suc n % 2 ≡ 0
even_pow n = rw (← one-mul (2 ^ suc n)) (shifted_even 1 n)

pub bit-pow : (n j : ℕ) → bit (2 ^ n) j ≡ eqb j n
unfolding bit
bit-pow zero zero = refl
bit-pow zero (suc j) = bit-none j ∙ sym (ne_eqb (suc j) 0 (omega arith))
bit-pow (suc n) zero = ap (λ v. eqb v 1) (even_pow n) ∙ sym (ne_eqb 0 (suc n) (omega arith))
bit-pow (suc n) (suc j) = ap (λ v. bit v j) (half_pow n) ∙ bit-pow n j ∙ eqb-suc j n

half_below : (n r : ℕ) → r < 2 ^ suc n → r / 2 < 2 ^ n
half_below n r l = omega (arith, pow-suc 2 n)

-- no bit past a number's length
pub bit_past : (n r j : ℕ) → r < 2 ^ n → n ≤ j → bit r j ≡ false
unfolding bit
bit_past zero r j l h = let z : r ≡ 0 = omega arith in rw z (bit-none j)
bit_past (suc n) r zero l h = absurd (omega arith)
bit_past (suc n) r (suc j) l h = bit_past n (r / 2) j (half_below n r l) (omega arith)

-- the lowest bit that is set
pub record Lowest (k r : ℕ) : Type 0 where
  pub within : count_trailing_zeros k r < k
  pub set : bit r (count_trailing_zeros k r) ≡ true
  pub least : (j : ℕ) → bit r j ≡ true → count_trailing_zeros k r ≤ j

low_even : (k r : ℕ) → r % 2 ≡ 0 → count_trailing_zeros (suc k) r ≡ suc (count_trailing_zeros k (r / 2))
unfolding count_trailing_zeros
low_even k r e = ap (λ d. under d (count_trailing_zeros k (r / 2))) e

low_odd : (k r : ℕ) → r % 2 ≡ 1 → count_trailing_zeros (suc k) r ≡ 0
unfolding count_trailing_zeros
low_odd k r e = ap (λ d. under d (count_trailing_zeros k (r / 2))) e

least_even : (r t : ℕ) → r % 2 ≡ 0 → ((j : ℕ) → bit (r / 2) j ≡ true → t ≤ j) → (j : ℕ) → bit r j ≡ true → suc t ≤ j
unfolding bit
least_even r t e h zero b = absurd (omega (arith, eqb-true (r % 2) 1 b))
least_even r t e h (suc j) b = omega (arith, h j b)

bit_half : (r j : ℕ) → bit (r / 2) j ≡ bit r (suc j)
unfolding bit
bit_half r j = refl

bit_odd : (r : ℕ) → r % 2 ≡ 1 → bit r 0 ≡ true
unfolding bit
bit_odd r e = eq-eqb (r % 2) 1 e

pub lowest : (k r : ℕ) → r < 2 ^ k → (r ≡ 0 → ⊥) → Lowest k r
lowest zero r l ne = absurd (ne (omega arith))
lowest (suc k) r l ne =
    elim (parity r) [
      | inl e ↦
          let low = lowest k (r / 2) (half_below k r l) (λ z. ne (omega (arith, div-add-mod' r 2))) in
          let is = low_even k r e in
          record {
            within = omega (arith, low.within);
            set = rw is (sym (bit_half r _) ∙ low.set);
            least = rw is (least_even r _ e low.least);
          }
      | inr e ↦
          let is = low_odd k r e in
          record { within = omega arith; set = rw is (bit_odd r e); least = λ j b. omega arith }
    ]

-- numbers with the same bits are the same
pub same_bits : (n a b : ℕ) → a < 2 ^ n → b < 2 ^ n → ((j : ℕ) → j < n → bit a j ≡ bit b j) → a ≡ b
unfolding bit
same_bits zero a b l m h = omega arith
same_bits (suc n) a b l m h =
    let rest : a / 2 ≡ b / 2 =
    same_bits n (a / 2) (b / 2) (half_below n a l) (half_below n b m) (λ j k. h (suc j) (omega arith)) in
    let low : a % 2 ≡ b % 2 =
    elim (parity a) [
      | inl e ↦ elim (parity b) [ inl f ↦ omega arith | inr f ↦ absurd (omega (arith, eqb-true (a % 2) 1 (h 0 (omega arith) ∙ eq-eqb (b % 2) 1 f))) ]
      | inr e ↦ elim (parity b) [ inl f ↦ absurd (omega (arith, eqb-true (b % 2) 1 (sym (h 0 (omega arith)) ∙ eq-eqb (a % 2) 1 e))) | inr f ↦ omega arith ]
    ] in
    omega (arith, div-add-mod' a 2, div-add-mod' b 2)
