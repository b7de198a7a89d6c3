-- Going over a line byte by byte decides its grammar.
use Rattle.std.proofs.Common.{◌≡◌, ℕ, ◌+◌, ◌<◌, ◌≤◌, Bool, false, List, [], ◌∷◌, ◌++◌, length, get_or, take, Some, None, Option, sym, refl, ap, ◌∙◌, inl, inr, arith}
use Rattle.std.proofs.lemmas.List.{take_more, take_all}
use Rattle.std.proofs.lemmas.Bool.{both_ways}
use Rattle.std.proofs.lemmas.Option.{none-some}
use Rattle.refusals.specs.Places.{GoesOn, Breaks}
use Rattle.scanning.specs.Scanner.{runs, Decides}

module _ {P : Type 0} (next : P → ℕ → Option P) where
  -- on from a part, if there is one
  abbrev pub onward : Option P → List ℕ → Option P
  onward (Some p) bs = runs next p bs
  onward None bs = None

  pub runs-step : (p : P) (b : ℕ) (bs : List ℕ) → runs next p (b ∷ bs) ≡ onward (next p b) bs
  unfolding runs
  runs-step p b bs = step (next p b)
    where
      step : (o : Option P) → (elim o [ Some q ↦ runs next q bs | None ↦ None ]) ≡ onward o bs
      step (Some q) = refl
      step None = refl

  pub runs_none : (p : P) → runs next p [] ≡ Some p
  unfolding runs
  runs_none p = refl

  pub runs_append : (p : P) (xs ys : List ℕ) → runs next p (xs ++ ys) ≡ onward (runs next p xs) ys
  runs_append p [] ys = ap (λ o. onward o ys) (sym (runs_none p))
  runs_append p (b ∷ bs) ys =
      runs-step p b (bs ++ ys) ∙ step (next p b) (λ q. runs_append q bs ys) ∙ ap (λ o. onward o ys) (sym (runs-step p b bs))
    where
      step : (o : Option P) → ((q : P) → runs next q (bs ++ ys) ≡ onward (runs next q bs) ys) → onward o (bs ++ ys) ≡ onward (onward o bs) ys
      step (Some q) h = h q
      step None h = refl

  -- the same part is reached once
  same_part : (o : Option P) (p q : P) → o ≡ Some p → o ≡ Some q → p ≡ q
  same_part o p q e f = let h : Some p ≡ Some q = sym e ∙ f in cc

  -- the bytes past the first, where that one leads
  pub after_first : (p : P) (b : ℕ) (bs : List ℕ) (o : Option P) (q : P) → next p b ≡ o → runs next p (b ∷ bs) ≡ Some q → onward o bs ≡ Some q
  after_first p b bs o q e h = sym (ap (λ x. onward x bs) e) ∙ sym (runs-step p b bs) ∙ h

  -- one byte more
  pub runs-more : (first p : P) (o : Option P) (line : List ℕ) (i : ℕ) → i < length line → runs next first (take i line) ≡ Some p → next p (get_or line i 0) ≡ o → runs next first (take (i + 1) line) ≡ o
  runs-more first p o line i l e n =
      ap (runs next first) (take_more line i 0 l) ∙ runs_append first (take i line) (get_or line i 0 ∷ [])
      ∙ ap (λ x. onward x (get_or line i 0 ∷ [])) e ∙ runs-step p (get_or line i 0) [] ∙ ap (λ x. onward x []) n ∙ end o
    where
      end : (o : Option P) → onward o [] ≡ o
      end (Some q) = runs_none q
      end None = refl

  pub runs-all : (first p : P) (line : List ℕ) (i : ℕ) → length line ≤ i → runs next first (take i line) ≡ Some p → runs next first line ≡ Some p
  runs-all first p line i l e = ap (runs next first) (sym (take_all i line l)) ∙ e

module _ {P : Type 0} {first : P} {next : P → ℕ → Option P} {last : P → Bool} {Lawful : List ℕ → Type 0} (laws : Decides first next last Lawful) where
  -- where bytes lead to a part, some lawful line begins with them
  goes_on : (front : List ℕ) (p : P) → runs next first front ≡ Some p → GoesOn Lawful front
  goes_on front p e =
      let (more, to) = laws.live p in
      let (q, h, z) = to in
      (more, laws.sound (front ++ more) (q, runs_append next first front more ∙ ap (λ o. onward next o more) e ∙ h, z))

  -- and where they lead to none, no lawful line does
  stuck : (front : List ℕ) → runs next first front ≡ None → GoesOn Lawful front → ⊥
  stuck front e g =
      let (more, l) = g in
      let (q, h, z) = laws.complete (front ++ more) l in
      none-some q (sym (runs_append next first front more ∙ ap (λ o. onward next o more) e) ∙ h)

  pub breaks-here : (line : List ℕ) (i : ℕ) (p : P) → i < length line → runs next first (take i line) ≡ Some p → next p (get_or line i 0) ≡ None → Breaks Lawful line i
  breaks-here line i p l e n =
      (goes_on (take i line) p e, inl (l, stuck (take (i + 1) line) (runs-more next first p None line i l e n)))

  pub breaks-end : (line : List ℕ) (p : P) → runs next first line ≡ Some p → last p ≡ false → Breaks Lawful line (length line)
  breaks-end line p e f = (
    goes_on (take (length line) line) p (ap (runs next first) (take_all (length line) line (omega arith)) ∙ e),
    inr (
      refl,
      λ l.
          let (q, h, z) = laws.complete line l in
          both_ways false refl (sym f ∙ ap last (same_part next _ p q e h) ∙ z),
    ),
  )
