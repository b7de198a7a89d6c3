-- A feature in its list: known or not, there already or not.
use Rattle.std.proofs.Common.{◌≡◌, ℕ, ◌<◌, Bool, true, false, not, ◌||◌, ◌≢◌, List, ◌∷◌, length, get_or, set, Some, None, Option, sym, ap, ◌∙◌, inl, inr, arith}
use Rattle.std.proofs.lemmas.List.{get_or-set_same, get_or-set_other}
use Rattle.std.proofs.lemmas.Bool.{cases_Bool, cases_eq, cond-true, cond-false, both_ways}
use Rattle.declarations.specs.Names.{listed}
use Rattle.features.specs.Model.{number_of}
use Rattle.grammar.specs.Told.{index}
use Rattle.grammar.proofs.Indexed.{listed-first, index_new, index_same}
use Rattle.grammar.proofs.Searching.{other_word}
use Rattle.reading.specs.Reading.{Seen, LooksUp}

-- a word behind another one
listed_other : (v w : List ℕ) (words : List (List ℕ)) → (v ≡ w → ⊥) → listed v words ≡ listed v (w ∷ words)
unfolding listed
listed_other v w words ne = sym (ap (λ b. b || listed v words) (other_word v w ne))

module _ (features words : List (List ℕ)) (seen : List Bool) (marks : Seen features words seen) (w : List ℕ) where
  known : (n : ℕ) → number_of w features ≡ Some n → (listed w features ≡ true) × (n ≡ index w features)
  known n e =
      elim (cases_Bool (listed w features)) [
        | inl t ↦
            let q : ◌≡◌ {A = Option ℕ} (Some (index w features)) (Some n) = sym (cond-true _ _ _ t) ∙ e in
            (t, cc)
        | inr f ↦
            let q : ◌≡◌ {A = Option ℕ} None (Some n) = sym (cond-false _ _ _ f) ∙ e in
            absurd (let z : ◌≡◌ {A = ℕ} 0 1 = cc in omega arith)
      ]

  pub looked_up : (n : ℕ) → number_of w features ≡ Some n → n < length seen → LooksUp features words w (record { feature = n; wrong = get_or seen n false; seen = set seen n true })
  looked_up n e l =
      let (t, is) = known n e in
      let here : get_or seen n false ≡ listed w words = ap (λ k. get_or seen k false) is ∙ marks w t in (
        is,
        here ∙ sym (ap (λ b. not b || listed w words) t),
        λ v h.
            elim (cases_eq (index v features) n) [
              | inl q ↦
                  let same : v ≡ w = index_same v w features h t (q ∙ is) in
                  ap (λ k. get_or (set seen n true) k false) q ∙ get_or-set_same seen n true false l ∙ sym (listed-first v w words same)
              | inr ne ↦
                  let other : index v features ≢ n = ne in
                  get_or-set_other seen n (index v features) true false other ∙ marks v h
                  ∙ listed_other v w words (λ q. ne (ap (λ x. index x features) q ∙ sym is))
            ],
      )

  pub not_found : number_of w features ≡ None → LooksUp features words w (record { feature = length features; wrong = true; seen = seen })
  not_found e =
      elim (cases_Bool (listed w features)) [
        | inl t ↦
            let q : ◌≡◌ {A = Option ℕ} (Some (index w features)) None = sym (cond-true _ _ _ t) ∙ e in
            absurd (let z : ◌≡◌ {A = ℕ} 0 1 = cc in omega arith)
        | inr f ↦ (
          sym (index_new w features f),
          sym (ap (λ b. not b || listed w words) f),
          λ v h. marks v h ∙ listed_other v w words (λ q. both_ways (listed w features) f (ap (λ x. listed x features) (sym q) ∙ h)),
        )
      ]
