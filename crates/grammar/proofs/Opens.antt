-- The test on statements, statement by statement: the open path falls, and what is told of a variable stays.
use Rattle.std.proofs.Common.{◌≡◌, ℕ, ◌<◌, ◌≤◌, Bool, true, false, cond, ◌&&◌, ◌||◌, eqb, ◌⊎◌, List, [], ◌∷◌, ◌++◌, sym, refl, ap, ◌∙◌, inl, inr, arith}
use Rattle.std.proofs.lemmas.List.{map_push}
use Rattle.std.proofs.lemmas.Bool.{and_parts, and_from, or_cases, or_left, or_right, cases_Bool, cond-true, cond-false, eqb-true, ne_eqb, both_ways}
use Rattle.declarations.specs.Declarations.{among}
use Rattle.grammar.specs.declared.statement.Statement.{Statement}
use Rattle.grammar.specs.declared.statement.Said.{Said}
use Rattle.grammar.specs.Lawful.{Open, root, path_to, innermost, has, may_come, after, lawful_from, statements}

-- what stands open after statements
unfoldable pub afters : {K : Type 0} → Open → List (Statement K) → Open
afters o [] = o
afters o (s ∷ ss) = afters (after s o) ss

and_assoc : (a b c : Bool) → ((a && b) && c) ≡ (a && (b && c))
and_assoc true b c = refl
and_assoc false b c = refl

pub lawful-append : {K : Type 0} (n : ℕ) (o : Open) (xs ys : List (Statement K)) →
    lawful_from n o (xs ++ ys) ≡ (lawful_from n o xs && lawful_from n (afters o xs) ys)
unfolding lawful_from afters
lawful-append n o [] ys = refl
lawful-append n o (s ∷ xs) ys =
    ap (λ b. may_come n s o && b) (lawful-append n (after s o) xs ys) ∙ sym (and_assoc (may_come n s o) (lawful_from n (after s o) xs) _)

pub afters_append : {K : Type 0} (o : Open) (xs ys : List (Statement K)) → afters o (xs ++ ys) ≡ afters (afters o xs) ys
unfolding afters
afters_append o [] ys = refl
afters_append o (s ∷ xs) ys = afters_append (after s o) xs ys

-- statements keep the test so far, and leave this open
pub record Stands {K : Type 0} (n : ℕ) (said : List (Said K)) (o : Open) : Type 0 where
  pub lawful : lawful_from n root (statements said) ≡ true
  pub is : afters root (statements said) ≡ o

pub stands-none : (K : Type 0) (n : ℕ) → Stands {K = K} n [] root
unfolding lawful_from afters
stands-none K n = record { lawful = refl; is = refl }

pub stands-say : {K : Type 0} (n : ℕ) (said : List (Said K)) (o : Open) (s : Statement K) (p : ℕ) → Stands n said o → may_come n s o ≡ true →
    Stands n (said ++ record { statement = s; place = p } ∷ []) (after s o)
unfolding lawful_from afters
stands-say {K} n said o s p h m =
    let e = map_push (λ (a : Said K). a.statement) said (record { statement = s; place = p }) in
    record {
      lawful =
          ap (lawful_from n root) e ∙ lawful-append n root (statements said) (s ∷ [])
          ∙ and_from _ _ h.lawful (ap (λ a. lawful_from n a (s ∷ [])) h.is ∙ and_from _ true m refl);
      is = ap (afters root) e ∙ afters_append root (statements said) (s ∷ []) ∙ ap (after s) h.is;
    }

-- numbers below b, each below the one before
abbrev pub Falling : ℕ → List ℕ → Type 0
Falling b [] = Unit {0}
Falling b (y ∷ ys) = (y < b) × Falling y ys

pub falling_weaker : (b c : ℕ) (ys : List ℕ) → b ≤ c → Falling b ys → Falling c ys
falling_weaker b c [] l h = tt
falling_weaker b c (y ∷ ys) l h = (omega (arith, h.0), h.1)

pub falling_among : (x b : ℕ) (ys : List ℕ) → Falling b ys → among x ys ≡ true → x < b
unfolding among
falling_among x b [] h m = absurd (both_ways false refl m)
falling_among x b (y ∷ ys) h m =
    elim (or_cases (eqb x y) (among x ys) m) [
      | inl e ↦ omega (arith, h.0, eqb-true x y e)
      | inr r ↦ omega (arith, h.0, falling_among x y ys h.1 r)
    ]

pub falling_to : (x b : ℕ) (ys : List ℕ) → Falling b ys → Falling b (path_to x ys)
unfolding path_to
falling_to x b [] h = tt
falling_to x b (y ∷ ys) h = step (eqb x y) (falling_to x b ys (falling_weaker y b ys (omega (arith, h.0)) h.1))
  where
    step : (t : Bool) → Falling b (path_to x ys) → Falling b (cond t (y ∷ ys) (path_to x ys))
    step true r = h
    step false r = r

pub among-to : (x : ℕ) (ys : List ℕ) → among x (path_to x ys) ≡ among x ys
unfolding path_to among
among-to x [] = refl
among-to x (y ∷ ys) = step (eqb x y) refl (among-to x ys)
  where
    step : (t : Bool) → eqb x y ≡ t → among x (path_to x ys) ≡ among x ys → among x (cond t (y ∷ ys) (path_to x ys)) ≡ (t || among x ys)
    step true e r = or_left (eqb x y) _ e
    step false e r = r

-- the path down to a variable lies in the path down to any that stands above it
pub to-to : (z x b : ℕ) (ys : List ℕ) → z ≤ x → Falling b ys → among x ys ≡ true → path_to z (path_to x ys) ≡ path_to z ys
unfolding path_to among
to-to z x b [] l h m = refl
to-to z x b (y ∷ ys) l h m =
    elim (cases_Bool (eqb x y)) [
      | inl e ↦ ap (path_to z) (cond-true _ (y ∷ ys) (path_to x ys) e)
      | inr f ↦
          elim (or_cases (eqb x y) (among x ys) m) [
            | inl e ↦ absurd (both_ways _ f e)
            | inr r ↦
                let below = falling_among x y ys h.1 r in
                ap (path_to z) (cond-false _ (y ∷ ys) (path_to x ys) f) ∙ to-to z x y ys l h.1 r
                ∙ sym (cond-false _ (y ∷ ys) (path_to z ys) (ne_eqb z y (λ e. omega arith)))
          ]
    ]

pub to_other : (z y : ℕ) (ys : List ℕ) → (z ≡ y → ⊥) → path_to z (y ∷ ys) ≡ path_to z ys
unfolding path_to
to_other z y ys ne = cond-false _ (y ∷ ys) (path_to z ys) (ne_eqb z y ne)

pub among-behind : (x y : ℕ) (ys : List ℕ) → among x ys ≡ true → among x (y ∷ ys) ≡ true
unfolding among
among-behind x y ys h = or_right (eqb x y) _ h

pub innermost-among : (x : ℕ) (ys : List ℕ) → innermost x ys ≡ true → among x ys ≡ true
unfolding among
innermost-among x [] h = absurd (both_ways false refl h)
innermost-among x (y ∷ ys) h = or_left (eqb x y) _ h

pub has-none : (z g : ℕ) → has z g [] ≡ false
unfolding has
has-none z g = refl

pub has_other : (z g x f : ℕ) (ps : List (ℕ × ℕ)) → (z ≡ x → ⊥) → has z g ((x, f) ∷ ps) ≡ has z g ps
unfolding has
has_other z g x f ps ne = rw (ne_eqb z x ne) refl

pub has_cases : (z g x f : ℕ) (ps : List (ℕ × ℕ)) → has z g ((x, f) ∷ ps) ≡ true → ((z ≡ x) × (g ≡ f)) ⊎ (has z g ps ≡ true)
unfolding has
has_cases z g x f ps h =
    elim (or_cases (eqb z x && eqb g f) (has z g ps) h) [
      | inl e ↦ let p = and_parts (eqb z x) (eqb g f) e in inl (eqb-true z x p.0, eqb-true g f p.1)
      | inr r ↦ inr r
    ]
