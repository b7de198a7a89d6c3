-- Where texts stop: the first byte that stops them.
use Rattle.std.proofs.Common.{◌≡◌, ℕ, ◌+◌, Bool, not, ◌≤◌, false, List, [], ◌∷◌, length, position, unwrap_or, Option, add_comm, add-one, sym, ap, ◌∙◌, subst, inl, inr, arith}
use Rattle.std.specs.List.{position_or_len}
use Rattle.std.proofs.lemmas.List.Sums.{prefix_len-le-length}
use Rattle.std.proofs.lemmas.Bool.{cases_Bool, cond-true, cond-false, cases_lt, lt-ltb, le-ltb}
use Rattle.orders.specs.Texts.{Stopped, stops}

-- one byte more, of a text of a single part
past : (b : ℕ) (bs : List ℕ) (n : ℕ) → stops b ≡ false → Stopped bs n → Stopped (b ∷ bs) (1 + n)
past b bs n f s = rw (add_comm 1 n, add-one) (record { within = omega (arith, s.within); before = (f, s.before); after = s.after })

stopped_here : (bytes : List ℕ) → Stopped bytes (position_or_len stops bytes)
stopped_here [] = record { within = omega arith; before = tt; after = tt }
stopped_here (b ∷ bs) =
    elim (cases_Bool (stops b)) [
      | inl t ↦ rw t (record { within = omega arith; before = tt; after = t })
      | inr f ↦ rw f (past b bs _ f (stopped_here bs))
    ]

-- the place of the first that passes, or the end
pub first_or_end : {X : Type 0} (p : X → Bool) (xs : List X) (r : Option ℕ) (n : ℕ) → r ≡ position p xs → n ≡ unwrap_or r (length xs) → n ≡ position_or_len p xs
first_or_end p xs r n e f =
    let most : position_or_len p xs ≤ length xs = prefix_len-le-length (λ x. not (p x)) xs in
    elim (cases_lt (position_or_len p xs) (length xs)) [
      | inl l ↦ f ∙ ap (λ o. unwrap_or o (length xs)) (e ∙ cond-true _ _ _ (lt-ltb _ _ l))
      | inr l ↦ let all : length xs ≡ position_or_len p xs = omega arith in f ∙ ap (λ o. unwrap_or o (length xs)) (e ∙ cond-false _ _ _ (le-ltb _ _ l)) ∙ all
    ]

-- where texts stop, by what looks for the first such byte
pub stopped : (bytes : List ℕ) (r : Option ℕ) (n : ℕ) → r ≡ position stops bytes → n ≡ unwrap_or r (length bytes) → Stopped bytes n
stopped bytes r n e f = subst (Stopped bytes) (sym (first_or_end stops bytes r n e f)) (stopped_here bytes)
