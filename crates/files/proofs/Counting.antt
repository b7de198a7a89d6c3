-- Counts: which lines are lawful, where others break, and their numbers.
use Rattle.std.proofs.Common.{◌≡◌, ℕ, zero, suc, ◌+◌, ◌*◌, ◌-◌, ◌<◌, ◌≤◌, true, false, not, ◌⊎◌, List, [], ◌∷◌, ◌++◌, length, take, drop, sym, refl, subst, inl, inr, arith, slice_index}
use Rattle.std.specs.List.{position_or_len}
use Rattle.std.proofs.lemmas.Bool.{cases_Bool, and_parts, both_ways, cases_lt}
use Rattle.std.proofs.lemmas.List.{length-take-le, take_all, take-append-drop, append-nil, length-append}
use Rattle.std.proofs.lemmas.List.Sums.{prefix_len-le-length}
use Rattle.refusals.specs.Places.{GoesOn, Breaks}
use Rattle.files.specs.Counts.{digit, all_digits, value, Lawful}
use Rattle.files.specs.Model.{other}

-- digits stand up to the first other byte
pub front_digits : (xs : List ℕ) (k : ℕ) → k ≤ position_or_len other xs → all_digits (take k xs) ≡ true
unfolding all_digits
front_digits xs zero l = refl
front_digits [] (suc k) l = refl
front_digits (x ∷ xs) (suc k) l =
    elim (cases_Bool (digit x)) [
      | inl d ↦ rw d (front_digits xs k (go d l))
      | inr d ↦ absurd (none d l)
    ]
  where
    go : digit x ≡ true → suc k ≤ position_or_len other (x ∷ xs) → k ≤ position_or_len other xs
    go d l = let m = rw d at l in omega (arith, m)

    none : digit x ≡ false → suc k ≤ position_or_len other (x ∷ xs) → ⊥
    none d l = let m = rw d at l in omega (arith, m)

-- and no more past it
pub no_more_digits : (xs rest : List ℕ) (k : ℕ) → k ≡ suc (position_or_len other xs) → k ≤ length xs → all_digits (take k xs ++ rest) ≡ true → ⊥
unfolding all_digits
no_more_digits xs rest zero e l a = omega (arith, e)
no_more_digits [] rest (suc k) e l a = omega (arith, l)
no_more_digits (x ∷ xs) rest (suc k) e l a =
    elim (cases_Bool (digit x)) [
      | inl d ↦ no_more_digits xs rest k (inside d e) (omega (arith, l)) (and_parts (digit x) _ a).1
      | inr d ↦ both_ways (digit x) d (and_parts (digit x) _ a).0
    ]
  where
    inside : digit x ≡ true → suc k ≡ suc (position_or_len other (x ∷ xs)) → k ≡ suc (position_or_len other xs)
    inside d e = let m = rw d at e in omega (arith, m)

module _ (line : List ℕ) where
  pub within : position_or_len other line ≤ length line
  within = prefix_len-le-length (λ b. not (other b)) line

  pub all_or_none : Lawful line → position_or_len other line ≡ length line
  all_or_none h =
      elim (cases_lt (position_or_len other line) (length line)) [
        | inl l ↦ absurd (no_more_digits line (drop (position_or_len other line + 1) line) (position_or_len other line + 1) (omega arith) (omega (arith, l)) (subst (λ xs. all_digits xs ≡ true) (sym (take-append-drop (position_or_len other line + 1) line)) h.digits))
        | inr l ↦ omega (arith, l, within)
      ]

  pub lawful_so : 1 ≤ length line → length line ≤ 3 → position_or_len other line ≡ length line → Lawful line
  lawful_so some few e =
      record {
        digits = subst (λ xs. all_digits xs ≡ true) (take_all (length line) line (omega arith)) (front_digits line (length line) (omega (arith, e)));
        some = some;
        few = few;
      }

  -- where a line that is no count breaks
  module _ (m : ℕ) (three : m ≤ 3) (most : m ≤ position_or_len other line) (none : Lawful line → ⊥) where
    length_m : length (take m line) ≡ m
    length_m = length-take-le m line (omega (arith, within, most))

    goes_on : (k : ℕ) → k ≡ m → GoesOn Lawful (take m line)
    unfolding all_digits
    goes_on zero e = (48 ∷ [], subst (λ j. Lawful (take j line ++ 48 ∷ [])) e (record { digits = refl; some = omega arith; few = omega arith }))
    goes_on (suc k) e =
        ([], subst Lawful (sym (append-nil (take m line))) (record { digits = front_digits line m most; some = omega (arith, length_m, e); few = omega (arith, length_m) }))

    no_further : (m ≡ 3) ⊎ (m ≡ position_or_len other line) → m < length line → GoesOn Lawful (take (m + 1) line) → ⊥
    no_further (inl e) l g =
        let size = length-take-le (m + 1) line (omega (arith, l)) in
        let whole = length-append (take (m + 1) line) g.0 in
        omega (arith, size, whole, g.1.few, e)
    no_further (inr e) l g = no_more_digits line g.0 (m + 1) (omega (arith, e)) (omega (arith, l)) g.1.digits

    pub breaks : (m ≡ 3) ⊎ (m ≡ position_or_len other line) → Breaks Lawful line m
    breaks which = (
      goes_on m refl,
      elim (cases_lt m (length line)) [
        | inl l ↦ inl (l, no_further which l)
        | inr l ↦ inr (omega (arith, l, most, within), none)
      ],
    )

-- the number of a count, digit by digit
pub value1 : (xs : List ℕ) → length xs ≡ 1 → slice_index xs 0 - 48 ≡ value 0 xs
unfolding value
value1 (a ∷ []) e = omega arith
value1 [] e = absurd (omega (arith, e))
value1 (a ∷ b ∷ xs) e = absurd (omega (arith, e))

pub value2 : (xs : List ℕ) → length xs ≡ 2 → (slice_index xs 0 - 48) * 10 + (slice_index xs 1 - 48) ≡ value 0 xs
unfolding value
value2 (a ∷ b ∷ []) e = omega arith
value2 [] e = absurd (omega (arith, e))
value2 (a ∷ []) e = absurd (omega (arith, e))
value2 (a ∷ b ∷ c ∷ xs) e = absurd (omega (arith, e))

pub value3 : (xs : List ℕ) → length xs ≡ 3 → (slice_index xs 0 - 48) * 100 + (slice_index xs 1 - 48) * 10 + (slice_index xs 2 - 48) ≡ value 0 xs
unfolding value
value3 (a ∷ b ∷ c ∷ []) e = omega arith
value3 [] e = absurd (omega (arith, e))
value3 (a ∷ []) e = absurd (omega (arith, e))
value3 (a ∷ b ∷ []) e = absurd (omega (arith, e))
value3 (a ∷ b ∷ c ∷ d ∷ xs) e = absurd (omega (arith, e))
