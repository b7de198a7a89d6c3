-- The number of a word among words.
use Rattle.std.proofs.Common.{◌≡◌, ℕ, suc, ◌<◌, ◌≤◌, true, false, List, [], ◌∷◌, length, get_or, sym, refl, ap, ◌∙◌, inl, inr, arith}
use Rattle.std.specs.Str.{bytes_eq}
use Rattle.std.proofs.lemmas.Bool.{or_parts, or_cases, or_left, or_right, cases_Bool, cond-true, cond-false, both_ways}
use Rattle.std.proofs.lemmas.Slice.Eq.{bytes_eq-Decides}
use Rattle.declarations.specs.Names.{listed}
use Rattle.grammar.specs.Told.{index}

pub listed-none : (w : List ℕ) → listed w [] ≡ false
unfolding listed
listed-none w = refl

pub index-none : (w : List ℕ) → index w [] ≡ 0
unfolding index
index-none w = refl

pub listed-first : (w v : List ℕ) (vs : List (List ℕ)) → w ≡ v → listed w (v ∷ vs) ≡ true
unfolding listed
listed-first w v vs e = or_left (bytes_eq w v) _ ((bytes_eq-Decides w v).1 e)

pub listed-behind : (w v : List ℕ) (vs : List (List ℕ)) → listed w vs ≡ true → listed w (v ∷ vs) ≡ true
unfolding listed
listed-behind w v vs h = or_right (bytes_eq w v) _ h

pub index_new : (w : List ℕ) (vs : List (List ℕ)) → listed w vs ≡ false → index w vs ≡ length vs
unfolding index listed
index_new w [] h = refl
index_new w (v ∷ vs) h =
    let p = or_parts (bytes_eq w v) _ h in
    cond-false _ 0 (suc (index w vs)) p.0 ∙ ap suc (index_new w vs p.1)

-- what stands at the number of a word that is listed
index_found : (w : List ℕ) (vs : List (List ℕ)) → listed w vs ≡ true → (index w vs < length vs) × (get_or vs (index w vs) [] ≡ w)
unfolding index listed
index_found w [] h = absurd (both_ways false refl h)
index_found w (v ∷ vs) h =
    elim (cases_Bool (bytes_eq w v)) [
      | inl t ↦ rw (cond-true _ 0 (suc (index w vs)) t) (omega arith, sym ((bytes_eq-Decides w v).0 t))
      | inr f ↦
          elim (or_cases (bytes_eq w v) (listed w vs) h) [
            | inl t ↦ absurd (both_ways _ f t)
            | inr m ↦ let r = index_found w vs m in rw (cond-false _ 0 (suc (index w vs)) f) (omega (arith, r.0), r.1)
          ]
    ]

pub index_old : (w : List ℕ) (vs : List (List ℕ)) → listed w vs ≡ true → index w vs < length vs
index_old w vs h = (index_found w vs h).0

pub index_at : (w : List ℕ) (vs : List (List ℕ)) → listed w vs ≡ true → get_or vs (index w vs) [] ≡ w
index_at w vs h = (index_found w vs h).1

pub index_same : (v w : List ℕ) (vs : List (List ℕ)) → listed v vs ≡ true → listed w vs ≡ true → index v vs ≡ index w vs → v ≡ w
index_same v w vs h g e = sym (index_at v vs h) ∙ ap (λ k. get_or vs k []) e ∙ index_at w vs g

pub index-within : (w : List ℕ) (vs : List (List ℕ)) → index w vs ≤ length vs
index-within w vs =
    elim (cases_Bool (listed w vs)) [
      | inl t ↦ omega (arith, index_old w vs t)
      | inr f ↦ omega (arith, index_new w vs f)
    ]

pub index_listed : (w : List ℕ) (vs : List (List ℕ)) → index w vs < length vs → listed w vs ≡ true
index_listed w vs l =
    elim (cases_Bool (listed w vs)) [
      | inl t ↦ t
      | inr f ↦ absurd (omega (arith, index_new w vs f))
    ]
