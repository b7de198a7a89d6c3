-- Following a function on numbers to where it stays, and what one new reference does to that.
use Rattle.std.proofs.Common.{ap, arith, cond, false, inl, inr, refl, suc, sym, true, zero, ℕ, ◌<◌, ◌==◌, ◌∙◌, ◌≡◌, ◌≢◌, ◌≤◌}
use Rattle.std.proofs.lemmas.Bool.{cases_eq, cond_both, eq-eqb, ne_eqb}
use Rattle.joining.specs.Good.{Reaches, away}
use Rattle.joining.specs.Heap.{end, follow}

module _ (r : ℕ → ℕ) where
  pub stays : (n i : ℕ) → r i ≡ i → follow r n i ≡ i
  unfolding follow
  stays zero i e = refl
  stays (suc n) i e = ap (follow r n) e ∙ stays n i e

  pub follow_last : (n i : ℕ) → follow r (suc n) i ≡ r (follow r n i)
  unfolding follow
  follow_last zero i = refl
  follow_last (suc n) i = follow_last n (r i)

  -- one who has come to an end stays there
  pub at_end : (n m i : ℕ) → n ≤ m → r (follow r n i) ≡ follow r n i → r (follow r m i) ≡ follow r m i
  unfolding follow
  at_end zero m i l e = rw (stays m i e) e
  at_end (suc n) zero i l e = absurd (omega arith)
  at_end (suc n) (suc m) i l e = at_end n m (r i) (omega arith) e

  -- one step first leads to the same end
  pub same_end : (n i : ℕ) → r (follow r n i) ≡ follow r n i → follow r n (r i) ≡ follow r n i
  unfolding follow
  same_end n i e = follow_last n i ∙ e

  module _ (u : ℕ) (inside : (i : ℕ) → i < u → r i < u) where
    pub follow_in : (n i : ℕ) → i < u → follow r n i < u
    unfolding follow
    follow_in zero i l = l
    follow_in (suc n) i l = follow_in n (r i) (inside i l)

    pub follow_label : {T : Type 0} (c : ℕ → T) → ((i : ℕ) → i < u → c (r i) ≡ c i) → (n i : ℕ) → i < u → c (follow r n i) ≡ c i
    unfolding follow
    follow_label c e zero i l = refl
    follow_label c e (suc n) i l = follow_label c e n (r i) (inside i l) ∙ e i l

  pub away_below : (n : ℕ) → away r n ≤ n
  unfolding away
  away_below zero = omega arith
  away_below (suc n) = cond_both (r n == n) (away r n) (suc (away r n)) (λ k. k ≤ suc n) (λ e. omega (arith, away_below n)) (λ e. omega (arith, away_below n))

-- two functions that agree lead the same way
pub follow_alike : (r s : ℕ → ℕ) → ((i : ℕ) → s i ≡ r i) → (n i : ℕ) → follow s n i ≡ follow r n i
unfolding follow
follow_alike r s e zero i = refl
follow_alike r s e (suc n) i = rw (e i) (follow_alike r s e n (r i))

-- two functions that agree below n have as many numbers there that do not refer to themselves
pub away_agrees : (r s : ℕ → ℕ) (n : ℕ) → ((i : ℕ) → i < n → s i ≡ r i) → away s n ≡ away r n
unfolding away
away_agrees r s zero e = refl
away_agrees r s (suc n) e =
    let here = e n (omega arith) in
    let below = away_agrees r s n (λ i l. e i (omega arith)) in
    rw (here, below)

-- s is r, but b, an end of r, now refers to a, another end
module _ (r s : ℕ → ℕ) (a b : ℕ) (apart : a ≢ b) (end_a : r a ≡ a) (end_b : r b ≡ b) (new : s b ≡ a) (old : (i : ℕ) → i ≢ b → s i ≡ r i) where
  reach_b : (n : ℕ) → Reaches s (suc n) b
  unfolding follow
  reach_b n = (1, omega arith, rw new (old a apart ∙ end_a))

  pub reach_moved : (n i : ℕ) → r (follow r n i) ≡ follow r n i → Reaches s (suc n) i
  unfolding follow
  reach_moved zero i e = elim (cases_eq i b) [ inl q ↦ rw q (reach_b zero) | inr q ↦ (zero, omega arith, old i q ∙ e) ]
  reach_moved (suc n) i e =
      let (k, l, end) = reach_moved n (r i) e in
      elim (cases_eq i b) [ inl q ↦ rw q (reach_b (suc n)) | inr q ↦ (suc k, omega arith, rw (old i q) end) ]

  away_at : away s (suc b) ≡ suc (away r (suc b))
  unfolding away
  away_at =
      let x = ne_eqb (s b) b (λ e. apart (sym new ∙ e)) in
      let y = eq-eqb (r b) b end_b in
      rw (x, y, away_agrees r s b (λ i l. old i (λ e. omega arith)))

  away_next : (n : ℕ) → n ≢ b → away s n ≡ suc (away r n) → away s (suc n) ≡ suc (away r (suc n))
  unfolding away
  away_next n ne e = rw (old n ne, e) (elim (r n == n) as (λ t. cond t (suc (away r n)) (suc (suc (away r n))) ≡ suc (cond t (away r n) (suc (away r n)))) [ true ↦ refl | false ↦ refl ])

  pub away_more : (n : ℕ) → b < n → away s n ≡ suc (away r n)
  away_more zero l = absurd (omega arith)
  away_more (suc n) l =
      let before : n ≢ b → away s n ≡ suc (away r n) = λ ne. away_more n (omega arith) in
      elim (cases_eq n b) [ inl q ↦ rw q away_at | inr q ↦ away_next n q (before q) ]
