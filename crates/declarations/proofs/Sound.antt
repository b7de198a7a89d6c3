-- What sound declarations keep.
use Rattle.std.proofs.Common.{◌≡◌, ℕ, zero, suc, ◌<◌, true, false, not, ◌&&◌, eqb, ltb, List, [], ◌∷◌, ◌++◌, length, get_or, take, sym, refl, ap, ◌∙◌, subst, inl, inr, append_assoc, arith}
use Rattle.std.specs.Str.{bytes_eq}
use Rattle.std.proofs.lemmas.List.{append-nil, get_or_past, get_or-take, length-take-le, nil_from_length}
use Rattle.std.proofs.lemmas.Bool.{and_parts, and_from, or_left, or_right, or_cases, eqb-true, eq-eqb, ltb-true, not-true, both_ways, cases_lt, cases_Bool, cases_order}
use Rattle.std.proofs.lemmas.Slice.Eq.{bytes_eq-Decides}
use Rattle.declarations.specs.Names.{is_name, all_name, listed}
use Rattle.declarations.specs.Declarations.{Declaration, any, stray, name_of, wider_of, among, names, all_below, follows, follow_on, sound}

pub among_below : (n w : ℕ) (xs : List ℕ) → all_below n xs ≡ true → among w xs ≡ true → w < n
unfolding all_below among
among_below n w [] a m = absurd (both_ways false refl m)
among_below n w (x ∷ xs) a m =
    let p = and_parts (ltb x n) (all_below n xs) a in
    elim (or_cases (eqb w x) (among w xs) m) [
      | inl e ↦ omega (arith, eqb-true w x e, ltb-true x n p.0)
      | inr h ↦ among_below n w xs p.1 h
    ]

among-some : (xs : List ℕ) → ltb 0 (length xs) ≡ true → (w : ℕ) × (among w xs ≡ true)
unfolding among
among-some [] l = absurd (omega (arith, ltb-true 0 0 l))
among-some (x ∷ xs) l = (x, or_left (eqb x x) (among x xs) (eq-eqb x x refl))

pub listed_at : (ds : List Declaration) (k : ℕ) → k < length ds → listed (name_of ds k) (names ds) ≡ true
unfolding listed
listed_at [] k l = absurd (omega arith)
listed_at (d ∷ ds) zero l = or_left (bytes_eq d.name d.name) _ ((bytes_eq-Decides d.name d.name).1 refl)
listed_at (d ∷ ds) (suc k) l = or_right (bytes_eq (name_of ds k) d.name) _ (listed_at ds k (omega arith))

-- a name that is listed is some kind's, and one that is not is none's
pub listed_is : (ds : List Declaration) (w : List ℕ) → listed w (names ds) ≡ true → (k : ℕ) × (k < length ds) × (name_of ds k ≡ w)
unfolding listed
listed_is [] w h = absurd (both_ways false refl h)
listed_is (d ∷ ds) w h =
    elim (or_cases (bytes_eq w d.name) (listed w (names ds)) h) [
      | inl e ↦ (0, omega arith, sym ((bytes_eq-Decides w d.name).0 e))
      | inr m ↦ let (k, l, e) = listed_is ds w m in (suc k, omega arith, e)
    ]

pub not_listed : (ds : List Declaration) (w : List ℕ) → ((k : ℕ) → k < length ds → name_of ds k ≡ w → ⊥) → listed w (names ds) ≡ false
not_listed ds w h =
    elim (cases_Bool (listed w (names ds))) [
      | inl t ↦ absurd (let (k, l, e) = listed_is ds w t in h k l e)
      | inr f ↦ f
    ]

-- what `follows` says, part by part
pub record Follows (ds : List Declaration) (d : Declaration) : Type 0 where
  pub named : is_name d.name ≡ true
  pub fresh : listed d.name (names ds) ≡ false
  pub some : ltb 0 (length d.wider) ≡ true
  pub earlier : all_below (length ds) d.wider ≡ true

pub follows_parts : (ds : List Declaration) (d : Declaration) → follows ds d ≡ true → Follows ds d
follows_parts ds d h =
    let p = and_parts (is_name d.name) _ h in
    let q = and_parts (not (listed d.name (names ds))) _ p.1 in
    let r = and_parts (ltb 0 (length d.wider)) _ q.1 in
    record { named = p.0; fresh = not-true _ q.0; some = r.0; earlier = r.1 }

follow_at : (before ds : List Declaration) → follow_on before ds ≡ true → (k : ℕ) → k < length ds → follows (before ++ take k ds) (get_or ds k stray) ≡ true
unfolding follow_on
follow_at before [] h k l = absurd (omega arith)
follow_at before (d ∷ ds) h zero l = rw (append-nil before) (and_parts (follows before d) _ h).0
follow_at before (d ∷ ds) h (suc k) l =
    let e = append_assoc before (d ∷ []) (take k ds) in
    subst (λ b. follows b (get_or ds k stray) ≡ true) e (follow_at (before ++ d ∷ []) ds (and_parts (follows before d) _ h).1 k (omega arith))

follow_push : (before ds : List Declaration) (d : Declaration) → follow_on before ds ≡ true → follows (before ++ ds) d ≡ true → follow_on before (ds ++ d ∷ []) ≡ true
unfolding follow_on
follow_push before [] d h f = and_from _ _ (subst (λ b. follows b d ≡ true) (append-nil before) f) refl
follow_push before (e ∷ ds) d h f =
    let p = and_parts (follows before e) _ h in
    and_from _ _ p.0 (follow_push (before ++ e ∷ []) ds d p.1 (subst (λ b. follows b d ≡ true) (sym (append_assoc before (e ∷ []) ds)) f))

-- one declaration more
pub sound_push : (ds : List Declaration) (d : Declaration) → sound ds ≡ true → follows ds d ≡ true → sound (ds ++ d ∷ []) ≡ true
sound_push [] d h f = absurd (both_ways false refl h)
sound_push (e ∷ ds) d h f =
    let p = and_parts (bytes_eq e.name any.name && eqb (length e.wider) 0) _ h in
    and_from _ _ p.0 (follow_push (e ∷ []) ds d p.1 f)

pub sound-some : (ds : List Declaration) → sound ds ≡ true → 0 < length ds
sound-some [] h = absurd (both_ways false refl h)
sound-some (d ∷ ds) h = omega arith

pub first-name : (ds : List Declaration) → sound ds ≡ true → name_of ds 0 ≡ any.name
first-name [] h = absurd (both_ways false refl h)
first-name (d ∷ ds) h =
    (bytes_eq-Decides d.name any.name).0 (and_parts (bytes_eq d.name any.name) _ (and_parts (bytes_eq d.name any.name && eqb (length d.wider) 0) _ h).0).0

pub first-wider : (ds : List Declaration) → sound ds ≡ true → wider_of ds 0 ≡ []
first-wider [] h = absurd (both_ways false refl h)
first-wider (d ∷ ds) h =
    nil_from_length d.wider (eqb-true _ _ (and_parts (bytes_eq d.name any.name) _ (and_parts (bytes_eq d.name any.name && eqb (length d.wider) 0) _ h).0).1)

-- a kind past the first follows those before it
pub sound_at : (ds : List Declaration) → sound ds ≡ true → (k : ℕ) → 0 < k → k < length ds → Follows (take k ds) (get_or ds k stray)
sound_at [] h k p l = absurd (omega arith)
sound_at (d ∷ ds) h zero p l = absurd (omega arith)
sound_at (d ∷ ds) h (suc k) p l =
    follows_parts (d ∷ take k ds) (get_or ds k stray)
    (follow_at (d ∷ []) ds (and_parts (bytes_eq d.name any.name && eqb (length d.wider) 0) _ h).1 k (omega arith))

module _ (ds : List Declaration) (ok : sound ds ≡ true) where
  -- wider kinds are declared before, stray numbers included
  pub earlier : (k w : ℕ) → among w (wider_of ds k) ≡ true → w < k
  unfolding among
  earlier k w m =
      elim (cases_lt k (length ds)) [
        | inl l ↦ elim (cases_lt 0 k) [
          | inl p ↦
              let f = sound_at ds ok k p l in
              omega (arith, among_below (length (take k ds)) w (get_or ds k stray).wider f.earlier m, length-take-le k ds (omega arith))
          | inr z ↦
              let e : k ≡ 0 = omega arith in
              let none : wider_of ds k ≡ [] = ap (wider_of ds) e ∙ first-wider ds ok in
              absurd (both_ways false refl (rw none at m))
        ]
        | inr g ↦
            let e : wider_of ds k ≡ 0 ∷ [] = ap (λ d. d.wider) (get_or_past ds k stray g) in
            let s = sound-some ds ok in
            elim (or_cases (eqb w 0) false (rw e at m)) [
              | inl z ↦ omega (arith, eqb-true w 0 z)
              | inr z ↦ absurd (both_ways false refl z)
            ]
      ]

  -- and there is one
  pub some-wider : (k : ℕ) → 0 < k → (w : ℕ) × (among w (wider_of ds k) ≡ true)
  unfolding among
  some-wider k p =
      elim (cases_lt k (length ds)) [
        | inl l ↦ among-some (get_or ds k stray).wider (sound_at ds ok k p l).some
        | inr g ↦ (0, rw (ap (λ d. d.wider) (get_or_past ds k stray g)) refl)
      ]

  pub is_named : (k : ℕ) → k < length ds → is_name (name_of ds k) ≡ true
  unfolding all_name
  is_named k l =
      elim (cases_lt 0 k) [
        | inl p ↦ (sound_at ds ok k p l).named
        | inr z ↦ let e : k ≡ 0 = omega arith in rw (e, first-name ds ok) refl
      ]

  earlier_name : (i j : ℕ) → i < j → j < length ds → name_of ds i ≡ name_of ds j → ⊥
  earlier_name i j l m e =
      let f = sound_at ds ok j (omega arith) m in
      let n : length (take j ds) ≡ j = length-take-le j ds (omega arith) in
      let at : name_of (take j ds) i ≡ name_of ds j = ap (λ d. d.name) (get_or-take j ds i stray l) ∙ e in
      both_ways _ f.fresh (subst (λ w. listed w (names (take j ds)) ≡ true) at (listed_at (take j ds) i (omega arith)))

  -- names are apart
  pub same_name : (i j : ℕ) → i < length ds → j < length ds → name_of ds i ≡ name_of ds j → i ≡ j
  same_name i j l m e =
      elim (cases_order i j) [
        | inl s ↦ s
        | inr o ↦ elim o [ inl h ↦ absurd (earlier_name i j h m e) | inr h ↦ absurd (earlier_name j i h l (sym e)) ]
      ]
