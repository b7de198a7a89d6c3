-- A word is looked for among words from the first on.
use Rattle.std.proofs.Common.{◌≡◌, ℕ, zero, suc, ◌+◌, ◌<◌, ltb, true, false, cond, ◌||◌, List, [], ◌∷◌, map, length, get_or, Some, None, sym, refl, ap, ◌∙◌, inl, inr, arith}
use Rattle.std.specs.List.{position, position_or_len}
use Rattle.std.proofs.lemmas.List.{length-map}
use Rattle.std.proofs.lemmas.List.Recursion.{is_position_or_len}
use Rattle.std.specs.Str.{bytes_eq}
use Rattle.std.proofs.lemmas.Slice.Eq.{bytes_eq-Decides}
use Rattle.std.proofs.lemmas.Bool.{cond-true, cond-false, cases_Bool, lt-ltb, le-ltb, or_left, or_right, or_from, false≢true}
use Rattle.declarations.specs.Names.{listed}
use Rattle.grammar.specs.Told.{index}

pub same_word : (w v : List ℕ) → w ≡ v → bytes_eq w v ≡ true
same_word w v e = (bytes_eq-Decides w v).1 e

pub other_word : (w v : List ℕ) → (w ≡ v → ⊥) → bytes_eq w v ≡ false
other_word w v ne =
    elim (cases_Bool (bytes_eq w v)) [ inl t ↦ absurd (ne ((bytes_eq-Decides w v).0 t)) | inr f ↦ f ]

-- the first of the words that is this one
pub index-here : (vs : List (List ℕ)) (w : List ℕ) (k : ℕ) → k < length vs → ((j : ℕ) → j < k → get_or vs j [] ≡ w → ⊥) → get_or vs k [] ≡ w → (index w vs ≡ k) × (listed w vs ≡ true)
unfolding index listed
index-here [] w k l before e = absurd (omega arith)
index-here (v ∷ vs) w zero l before e =
    let s = same_word w v (sym e) in (cond-true (bytes_eq w v) 0 _ s, or_left (bytes_eq w v) _ s)
index-here (v ∷ vs) w (suc k) l before e =
    let d = other_word w v (λ q. before zero (omega arith) (sym q)) in
    let (i, m) = index-here vs w k (omega arith) (λ j h. before (suc j) (omega arith)) e in
    (cond-false (bytes_eq w v) 0 _ d ∙ ap suc i, or_right (bytes_eq w v) _ m)

-- none of the words is this one
pub index-none : (vs : List (List ℕ)) (w : List ℕ) → ((j : ℕ) → j < length vs → get_or vs j [] ≡ w → ⊥) → (index w vs ≡ length vs) × (listed w vs ≡ false)
unfolding index listed
index-none [] w none = (refl, refl)
index-none (v ∷ vs) w none =
    let d = other_word w v (λ q. none zero (omega arith) (sym q)) in
    let (i, m) = index-none vs w (λ j h. none (suc j) (omega arith)) in
    (cond-false (bytes_eq w v) 0 _ d ∙ ap suc i, or_from (bytes_eq w v) _ d m)

-- a word that is listed stands at its index
pub listed-stands : (vs : List (List ℕ)) (w : List ℕ) → listed w vs ≡ true → (index w vs < length vs) × (get_or vs (index w vs) [] ≡ w)
unfolding index listed
listed-stands [] w h = absurd (false≢true h)
listed-stands (v ∷ vs) w h =
    elim (cases_Bool (bytes_eq w v)) [
      | inl t ↦
          let i : index w (v ∷ vs) ≡ 0 = cond-true (bytes_eq w v) 0 _ t in
          (omega (arith, i), ap (λ k. get_or (v ∷ vs) k []) i ∙ sym ((bytes_eq-Decides w v).0 t))
      | inr f ↦
          let m : listed w vs ≡ true = sym (ap (λ b. b || listed w vs) f) ∙ h in
          let (l, e) = listed-stands vs w m in
          let i : index w (v ∷ vs) ≡ suc (index w vs) = cond-false (bytes_eq w v) 0 _ f in
          (omega (arith, i), ap (λ k. get_or (v ∷ vs) k []) i ∙ e)
    ]

-- a word that is not listed has the number past the last
pub unlisted_past : (vs : List (List ℕ)) (w : List ℕ) → listed w vs ≡ false → index w vs ≡ length vs
unfolding index listed
unlisted_past [] w h = refl
unlisted_past (v ∷ vs) w h =
    elim (cases_Bool (bytes_eq w v)) [
      | inl t ↦ absurd (false≢true (sym h ∙ or_left (bytes_eq w v) _ t))
      | inr f ↦
          let m : listed w vs ≡ false = sym (ap (λ b. b || listed w vs) f) ∙ h in
          cond-false (bytes_eq w v) 0 _ f ∙ ap suc (unlisted_past vs w m)
    ]

-- the same as the library's search says it, in a list whose items have words
module _ {X : Type 0} (f : X → List ℕ) (w : List ℕ) (xs : List X) where
  pub index_position : index w (map f xs) ≡ position_or_len (λ x. bytes_eq w (f x)) xs
  unfolding index
  index_position = is_position_or_len (λ ys. index w (map f ys)) (λ x. bytes_eq w (f x)) refl (λ x ys. let n : suc (index w (map f ys)) ≡ 1 + index w (map f ys) = omega arith in ap (λ n. cond (bytes_eq w (f x)) 0 n) n) xs

  pub listed_within : ltb (position_or_len (λ x. bytes_eq w (f x)) xs) (length xs) ≡ listed w (map f xs)
  listed_within =
      let i = index_position in
      let n = length-map xs f in
      elim (cases_Bool (listed w (map f xs))) [
        | inl h ↦ lt-ltb _ _ (omega (arith, i, n, (listed-stands (map f xs) w h).0)) ∙ sym h
        | inr h ↦ le-ltb _ _ (omega (arith, i, n, unlisted_past (map f xs) w h)) ∙ sym h
      ]

  pub number_position : position (λ x. bytes_eq w (f x)) xs ≡ cond (listed w (map f xs)) (Some (index w (map f xs))) None
  number_position = ap (λ b. cond b (Some (position_or_len (λ x. bytes_eq w (f x)) xs)) None) listed_within ∙ ap (λ i. cond (listed w (map f xs)) (Some i) None) (sym index_position)
