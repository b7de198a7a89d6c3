-- When kinds with something under both have a widest such kind.
use Rattle.std.proofs.Common.{◌≡◌, ℕ, zero, suc, ◌^◌, ◌<◌, ◌≤◌, true, false, List, length, Decides, sym, refl, ap, ◌∙◌, subst, inl, inr, arith, pow_mono}
use lib.Bits.{bit_and, and_le_l}
use lib.Count.{count_trailing_zeros}
use Rattle.std.proofs.lemmas.Bool.Decides.{same_from_decides, Decides-like}
use Rattle.std.proofs.lemmas.Bool.{and_parts, and_from, or_cases, or_parts, eqb-true, eqb-false, both_ways, cases_lt, cases_eq, cases_Bool, cases_order}
use Rattle.declarations.specs.Declarations.{Declaration, Under, Widest, NoWidest, sound}
use Rattle.declarations.specs.Declarations.Under.{itself}
use Rattle.declarations.specs.Rows.{bit, row, meets, meets_all, closed_to, closed}
use Rattle.declarations.proofs.Binary.{bit-none, bit-bit_and, bit_past, Lowest, lowest, same_bits}
use Rattle.declarations.proofs.Grown.{Right}
use Rattle.declarations.proofs.Above.{under-through, under_le, under-any, stray-under}

module _ (limit : ℕ) (ds : List Declaration) (rows : List ℕ) (ok : sound ds ≡ true) (r : Right ds rows) (few : length ds ≤ limit) where
  module _ (a b : ℕ) (l : a < length ds) (m : b < length ds) where
    abbrev pub both : ℕ
    both = bit_and (row rows a) (row rows b)

    both_below : both < 2 ^ length ds
    both_below = omega (arith, and_le_l (row rows a) (row rows b), r.bound a l)

    both-limit : both < 2 ^ limit
    both-limit = let p = pow_mono few in omega (arith, both_below)

    -- a declared kind is under both exactly when its bit is set
    both-bit : (k : ℕ) → k < length ds → Decides (bit both k) (Under ds k a × Under ds k b)
    both-bit k h = (
      λ t. let p = and_parts _ _ (sym (bit-bit_and (row rows a) (row rows b) k) ∙ t) in ((r.right a k l h).0 p.0, (r.right b k m h).0 p.1),
      λ u. bit-bit_and (row rows a) (row rows b) k ∙ and_from _ _ ((r.right a k l h).1 u.0) ((r.right b k m h).1 u.1),
    )

    -- a number past the kinds is under both only where both are `any`
    stray-both : (k : ℕ) → length ds ≤ k → Under ds k a → Under ds k b → (a ≡ 0) × (b ≡ 0)
    stray-both k g u v = (
      elim (stray-under ds ok k a g u) [ inl e ↦ absurd (omega arith) | inr e ↦ e ],
      elim (stray-under ds ok k b g v) [ inl e ↦ absurd (omega arith) | inr e ↦ e ],
    )

    -- `any` is under both only where both are `any`
    any-both : (a ≡ 0) × (b ≡ 0) → bit both 0 ≡ true
    any-both e = (both-bit 0 (omega arith)).1 (subst (λ x. Under ds 0 x) (sym e.0) (under-any ds ok 0), subst (λ x. Under ds 0 x) (sym e.1) (under-any ds ok 0))

    pub nothing-both : both ≡ 0 → (k : ℕ) → Under ds k a → Under ds k b → ⊥
    nothing-both e k u v =
        elim (cases_lt k (length ds)) [
          | inl h ↦ none k ((both-bit k h).1 (u, v))
          | inr h ↦ none 0 (any-both (stray-both k h u v))
        ]
      where
        none : (j : ℕ) → bit both j ≡ true → ⊥
        none j t = both_ways _ (bit-none j) (sym (ap (λ v. bit v j) e) ∙ t)

    abbrev pub low : ℕ
    low = count_trailing_zeros limit both

    module _ (ne : both ≡ 0 → ⊥) where
      low_is : Lowest limit both
      low_is = lowest limit both both-limit ne

      pub low_within : low < length ds
      low_within =
          elim (cases_lt (count_trailing_zeros limit both) (length ds)) [
            | inl h ↦ h
            | inr h ↦ absurd (both_ways _ (bit_past (length ds) both _ both_below h) low_is.set)
          ]

      low_both : Under ds low a × Under ds low b
      low_both = (both-bit low low_within).0 low_is.set

      low_least : (k : ℕ) → bit both k ≡ true → low ≤ k
      low_least k t = low_is.least k t

      low_most : row rows low ≡ both → (k : ℕ) → Under ds k a → Under ds k b → Under ds k low
      low_most e k u v =
          elim (cases_lt k (length ds)) [
            | inl h ↦ (r.right low k low_within h).0 (ap (λ x. bit x k) e ∙ (both-bit k h).1 (u, v))
            | inr h ↦
                let z : low ≡ 0 = omega (arith, low_least 0 (any-both (stray-both k h u v))) in
                rw z (under-any ds ok k)
          ]

      low_widest : row rows low ≡ both → Widest ds a b low
      low_widest e = record { first = low_both.0; second = low_both.1; most = low_most e }

      -- a widest kind is the lowest one, and its row is the two rows' common part
      widest_low : (c : ℕ) → Widest ds a b c → row rows low ≡ both
      widest_low c w =
          let at = low_both in
          let le = under_le ds ok (w.most low at.0 at.1) in
          let h : c < length ds = omega (arith, low_within) in
          let ge = low_least c ((both-bit c h).1 (w.first, w.second)) in
          let e : c ≡ low = omega arith in
          same_bits (length ds) (row rows low) both (r.bound low low_within) both_below (λ j k.
          same_from_decides _ _ (r.right low j low_within k)
          (Decides-like _ (λ p. subst (λ x. Under ds j x) e (w.most j p.0 p.1))
          (λ u. (under-through ds u at.0, under-through ds u at.1)) (both-bit j k)))

    pub meets-widest : meets limit rows a b ≡ true → (both ≡ 0 → ⊥) → Widest ds a b low
    meets-widest t ne =
        elim (or_cases _ _ t) [
          | inl e ↦ absurd (ne (eqb-true _ _ e))
          | inr e ↦ low_widest ne (eqb-true _ _ e)
        ]

    pub not_meets : meets limit rows a b ≡ false → NoWidest ds a b
    not_meets f =
        let p = or_parts _ _ f in
        let ne : both ≡ 0 → ⊥ = eqb-false _ _ p.0 in
        let at = low_both ne in
        ((low, at.0, at.1), λ c w. eqb-false _ _ p.1 (widest_low ne c w))

    -- a widest kind, or nothing under both
    pub meets_not : meets limit rows a b ≡ true → NoWidest ds a b → ⊥
    meets_not t n =
        elim (cases_eq both 0) [
          | inl e ↦ let (k, u, v) = n.0 in nothing-both e k u v
          | inr ne ↦ n.1 low (meets-widest t ne)
        ]

meets_at : (limit : ℕ) (rows : List ℕ) (a n : ℕ) → meets_all limit rows a n ≡ true → (b : ℕ) → b < n → meets limit rows a b ≡ true
unfolding meets_all
meets_at limit rows a zero t b l = absurd (omega arith)
meets_at limit rows a (suc n) t b l =
    let p = and_parts (meets_all limit rows a n) _ t in
    elim (cases_eq b n) [ inl e ↦ rw e p.1 | inr ne ↦ meets_at limit rows a n p.0 b (omega arith) ]

closed_at : (limit : ℕ) (rows : List ℕ) (n m : ℕ) → closed_to limit rows n m ≡ true → (a b : ℕ) → a < m → b < n → meets limit rows a b ≡ true
unfolding closed_to
closed_at limit rows n zero t a b l h = absurd (omega arith)
closed_at limit rows n (suc m) t a b l h =
    let p = and_parts (closed_to limit rows n m) _ t in
    elim (cases_eq a m) [ inl e ↦ rw e (meets_at limit rows m n p.1 b h) | inr ne ↦ closed_at limit rows n m p.0 a b (omega arith) h ]

-- in closed rows every two kinds meet
pub closed-meets : (limit : ℕ) (rows : List ℕ) → closed limit rows ≡ true → (a b : ℕ) → a < length rows → b < length rows → meets limit rows a b ≡ true
closed-meets limit rows t a b l h = closed_at limit rows (length rows) (length rows) t a b l h

meets-all-from : (limit : ℕ) (rows : List ℕ) (a n : ℕ) → ((b : ℕ) → b < n → meets limit rows a b ≡ true) → meets_all limit rows a n ≡ true
unfolding meets_all
meets-all-from limit rows a zero h = refl
meets-all-from limit rows a (suc n) h = and_from _ _ (meets-all-from limit rows a n (λ b l. h b (omega arith))) (h n (omega arith))

closed-from-all : (limit : ℕ) (rows : List ℕ) (n m : ℕ) → ((a b : ℕ) → a < m → b < n → meets limit rows a b ≡ true) → closed_to limit rows n m ≡ true
unfolding closed_to
closed-from-all limit rows n zero h = refl
closed-from-all limit rows n (suc m) h =
    and_from _ _ (closed-from-all limit rows n m (λ a b l k. h a b (omega arith) k)) (meets-all-from limit rows m n (λ b l. h m b (omega arith) l))

-- and rows in which every two kinds meet are closed
pub closed-from : (limit : ℕ) (rows : List ℕ) → ((a b : ℕ) → a < length rows → b < length rows → meets limit rows a b ≡ true) → closed limit rows ≡ true
closed-from limit rows h = closed-from-all limit rows (length rows) (length rows) h

swapped : (ds : List Declaration) (a b : ℕ) → NoWidest ds a b → NoWidest ds b a
swapped ds a b n =
    let (k, u, v) = n.0 in
    ((k, v, u), λ c w. n.1 c (record { first = w.second; second = w.first; most = λ j x y. w.most j y x }))

-- it suffices to look at each pair once
pub closed_pairs : (limit : ℕ) (ds : List Declaration) (rows : List ℕ) → sound ds ≡ true → Right ds rows → length ds ≤ limit → ((x y : ℕ) → x < y → y < length ds → meets limit rows x y ≡ true) → closed limit rows ≡ true
closed_pairs limit ds rows ok r few h =
    closed-from limit rows (λ a b l m.
    elim (cases_Bool (meets limit rows a b)) [
      | inl t ↦ t
      | inr f ↦ absurd (never a b (omega (arith, r.size)) (omega (arith, r.size)) (not_meets limit ds rows ok r few a b (omega (arith, r.size)) (omega (arith, r.size)) f))
    ])
  where
    never : (a b : ℕ) → a < length ds → b < length ds → NoWidest ds a b → ⊥
    never a b l m n =
        elim (cases_order a b) [
          | inl e ↦ n.1 a (record { first = itself; second = subst (λ x. Under ds a x) e itself; most = λ j u v. u })
          | inr o ↦ elim o [
            | inl lt ↦ meets_not limit ds rows ok r few a b l m (h a b lt m) n
            | inr gt ↦ meets_not limit ds rows ok r few b a m l (h b a gt l) (swapped ds a b n)
          ]
        ]
