-- Depths along the open path: as many as there are variables above.
use Rattle.std.proofs.Common.{◌≡◌, ℕ, suc, ◌<◌, ◌≤◌, true, false, eqb, ◌⊎◌, List, [], ◌∷◌, ◌++◌, length, get_or, sym, refl, ap, ◌∙◌, inl, inr, arith}
use Rattle.std.proofs.lemmas.List.{get_or_append_left}
use Rattle.std.proofs.lemmas.Bool.{or_cases, cases_eq, cond-true, eq-eqb, eqb-true, both_ways}
use Rattle.declarations.specs.Declarations.{among}
use Rattle.grammar.specs.Lawful.{path_to}
use Rattle.grammar.proofs.Opens.{Falling, falling_among, to_other, among-to, to-to}

-- the depth of each variable on a path is how many are above it
unfoldable pub Deep : List ℕ → List ℕ → Type 0
Deep ds [] = Unit {0}
Deep ds (y ∷ ys) = (get_or ds y 0 ≡ length ys) × Deep ds ys

pub deep_cons : (ds : List ℕ) (y : ℕ) (ys : List ℕ) → get_or ds y 0 ≡ length ys → Deep ds ys → Deep ds (y ∷ ys)
unfolding Deep
deep_cons ds y ys e d = (e, d)

-- a variable on a path is the innermost, or stands above it
among_cases : (x y : ℕ) (ys : List ℕ) → among x (y ∷ ys) ≡ true → (x ≡ y) ⊎ (among x ys ≡ true)
unfolding among
among_cases x y ys h = elim (or_cases (eqb x y) (among x ys) h) [ inl e ↦ inl (eqb-true x y e) | inr r ↦ inr r ]

among_none : (x : ℕ) → among x [] ≡ true → ⊥
unfolding among
among_none x h = both_ways false refl h

-- the path to its innermost variable is the path
to_innermost : (x y : ℕ) (ys : List ℕ) → x ≡ y → path_to x (y ∷ ys) ≡ y ∷ ys
unfolding path_to
to_innermost x y ys e = cond-true _ (y ∷ ys) (path_to x ys) (eq-eqb x y e)

module _ (ds : List ℕ) where
  -- the path to a variable on a path is as long as the variable is deep, and one more
  pub to_deep : (x b : ℕ) (ys : List ℕ) → Falling b ys → Deep ds ys → among x ys ≡ true →
      Deep ds (path_to x ys) × (length (path_to x ys) ≡ suc (get_or ds x 0))
  unfolding Deep
  to_deep x b [] h d m = absurd (among_none x m)
  to_deep x b (y ∷ ys) h d m =
      elim (cases_eq x y) [
        | inl e ↦ rw (to_innermost x y ys e) (d, ap suc (sym d.0 ∙ ap (λ n. get_or ds n 0) (sym e)))
        | inr n ↦ elim (among_cases x y ys m) [ inl e ↦ absurd (n e) | inr r ↦ rw (to_other x y ys n) (to_deep x y ys h.1 d.1 r) ]
      ]

  -- a variable on a path is not as deep as the path is long
  pub above : (x : ℕ) (ys : List ℕ) → Deep ds ys → among x ys ≡ true → get_or ds x 0 < length ys
  unfolding Deep
  above x [] d m = absurd (among_none x m)
  above x (y ∷ ys) d m =
      elim (among_cases x y ys m) [ inl e ↦ rw e (omega (arith, d.0)) | inr r ↦ omega (arith, above x ys d.1 r) ]

  -- of two variables on a path the later one is deeper
  pub deeper : (z x b : ℕ) (ys : List ℕ) → Falling b ys → Deep ds ys → among z ys ≡ true → among x ys ≡ true → z < x → get_or ds z 0 < get_or ds x 0
  unfolding Deep
  deeper z x b [] h d m q l = absurd (among_none x q)
  deeper z x b (y ∷ ys) h d m q l =
      elim (among_cases z y ys m) [
        | inl e ↦ absurd (elim (among_cases x y ys q) [ inl f ↦ omega arith | inr r ↦ omega (arith, falling_among x y ys h.1 r) ])
        | inr r ↦
            elim (among_cases x y ys q) [
              | inl f ↦ rw f (omega (arith, d.0, above z ys d.1 r))
              | inr s ↦ deeper z x y ys h.1 d.1 r s l
            ]
      ]

-- the path to a variable has those that stand above it
pub still_among : (z x b : ℕ) (ys : List ℕ) → Falling b ys → among z ys ≡ true → among x ys ≡ true → z ≤ x → among z (path_to x ys) ≡ true
still_among z x b ys h m q l = sym (among-to z (path_to x ys)) ∙ ap (among z) (to-to z x b ys l h q) ∙ among-to z ys ∙ m

-- depths that are told later change nothing
pub deep_more : (ds : List ℕ) (d b : ℕ) (ys : List ℕ) → b ≤ length ds → Falling b ys → Deep ds ys → Deep (ds ++ d ∷ []) ys
unfolding Deep
deep_more ds d b [] l h e = tt
deep_more ds d b (y ∷ ys) l h e = (get_or_append_left ds (d ∷ []) 0 y (omega (arith, h.0)) ∙ e.0, deep_more ds d y ys (omega (arith, h.0)) h.1 e.1)
