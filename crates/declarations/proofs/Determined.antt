-- A line has one outcome: a lawful line has one reading, and an accepted line is refused for nothing.
use Rattle.std.proofs.Common.{◌≡◌, ℕ, ◌+◌, ◌<◌, ◌≤◌, Bool, true, false, not, ◌&&◌, ltb, leb, List, [], ◌∷◌, ◌++◌, length, get_or, Ok, Err, Result, sym, refl, ap, ◌∙◌, subst, ap₂, inl, inr, arith}
use Rattle.std.specs.List.{AllByRecursion}
use Rattle.std.proofs.lemmas.List.{append_cancel_left, get_or_at}
use Rattle.std.proofs.lemmas.Bool.{and_parts, both_ways, ltb-true, leb-true, not-true, cases_lt}
use Rattle.orders.proofs.Fronts.{Ends, same_fronts}
use Rattle.refusals.proofs.Broken.{breaks-apart, breaks-same}
use Rattle.refusals.proofs.Known.{same_refusal}
use Rattle.refusals.specs.declared.Refusal.{Refusal}
use Rattle.declarations.specs.Names.{letter, name_byte, all_name, is_name, listed}
use Rattle.declarations.specs.Declarations.{Declaration, names}
use Rattle.declarations.specs.Lines.{tail, Line, TooMuch, Known, Unknown, WrongWord, numbers, Accepts, Refuses, Declares}
use Rattle.declarations.proofs.Words.{letter-name, blank_apart, front_at}

all-bytes : (bs : List ℕ) → all_name bs ≡ true → AllByRecursion (λ b. name_byte b ≡ true) bs
unfolding all_name
all-bytes [] a = tt
all-bytes (b ∷ bs) a = let p = and_parts (name_byte b) _ a in (p.0, all-bytes bs p.1)

name_bytes_of : (w : List ℕ) → is_name w ≡ true → AllByRecursion (λ b. name_byte b ≡ true) w
name_bytes_of [] n = absurd (both_ways false refl n)
name_bytes_of (b ∷ bs) n = let p = and_parts (letter b) _ n in (letter-name b p.0, all-bytes bs p.1)

tail-ends : (ws : List (List ℕ)) → Ends (λ b. b ≡ 32) (tail ws)
unfolding tail
tail-ends [] = tt
tail-ends (w ∷ ws) = refl

-- a name, and then words: one way only
same_word : (v w : List ℕ) (vs ws : List (List ℕ)) → is_name v ≡ true → is_name w ≡ true → v ++ tail vs ≡ w ++ tail ws → v ≡ w
same_word v w vs ws n m e =
    same_fronts (λ b. name_byte b ≡ true) (λ b. b ≡ 32) blank_apart v (tail vs) w (tail ws) (name_bytes_of v n) (tail-ends vs) (name_bytes_of w m) (tail-ends ws) e

same_rest : (v w : List ℕ) (xs ys : List ℕ) → v ≡ w → v ++ xs ≡ w ++ ys → xs ≡ ys
same_rest v w xs ys e h = append_cancel_left w xs ys (ap (λ z. z ++ xs) (sym e) ∙ h)

same-tail : (vs ws : List (List ℕ)) → AllByRecursion (λ w. is_name w ≡ true) vs → AllByRecursion (λ w. is_name w ≡ true) ws → tail vs ≡ tail ws → vs ≡ ws
unfolding tail
same-tail [] [] a b e = refl
same-tail [] (w ∷ ws) a b e = absurd (let z : ◌≡◌ {A = ℕ} 0 1 = cc in omega arith)
same-tail (v ∷ vs) [] a b e = absurd (let z : ◌≡◌ {A = ℕ} 0 1 = cc in omega arith)
same-tail (v ∷ vs) (w ∷ ws) a b e =
    let more : v ++ tail vs ≡ w ++ tail ws = cc in
    let first = same_word v w vs ws a.0 b.0 more in
    ap₂ (λ x xs. x ∷ xs) first (same-tail vs ws a.1 b.1 (same_rest v w (tail vs) (tail ws) first more))

module _ (line : List ℕ) (l m : Line line) where
  pub one_name : l.name ≡ m.name
  one_name = same_word l.name m.name l.wider m.wider l.named m.named (sym l.whole ∙ m.whole)

  pub one_wider : l.wider ≡ m.wider
  one_wider = same-tail l.wider m.wider l.each m.each (same_rest l.name m.name (tail l.wider) (tail m.wider) one_name (sym l.whole ∙ m.whole))

known-within : (ds : List Declaration) (done : List (List ℕ)) (w : List ℕ) (more : List (List ℕ)) → AllByRecursion (Known ds) (done ++ w ∷ more) → Known ds w
known-within ds [] w more a = a.0
known-within ds (v ∷ done) w more a = known-within ds done w more a.1

module _ (limit : ℕ) (ds : List Declaration) (line : List ℕ) (d : Declaration) (a : Accepts limit ds line d) where
  pub not_refused : (e : Refusal) → Refuses limit ds line e → ⊥
  not_refused e (inl h) = a.within h.0
  not_refused e (inr (inl h)) = let (p, b, is) = h.1 in breaks-apart Line line p b a.words
  not_refused e (inr (inr h)) =
      let (l, p, w, is) = h.1 in
      elim w [
        | inl k ↦ both_ways _ a.fresh (subst (Known ds) (one_name line l a.words) k.0)
        | inr u ↦
            let f = u.1 in
            both_ways _ f.unknown (known-within ds f.done f.word f.more (subst (AllByRecursion (Known ds)) (sym (one_wider line l a.words) ∙ f.split) a.known))
      ]

  -- an accepted line is accepted, and declares this
  pub accepted : (after : List Declaration) (r : Result ℕ Refusal) → Declares limit ds line after r → (r ≡ Ok (length ds)) × (after ≡ ds ++ d ∷ [])
  accepted after (Ok k) h =
      let (other, b, is) = h.1 in
      let name : other.name ≡ d.name = b.name ∙ one_name line b.words a.words ∙ sym a.name in
      let wider : other.wider ≡ d.wider = b.wider ∙ ap (numbers ds) (one_wider line b.words a.words) ∙ sym a.wider in
      let same : other ≡ d = λ i. record { name = name i; wider = wider i } in
      (ap Ok h.0, is ∙ ap (λ x. ds ++ x ∷ []) same)
  accepted after (Err e) h = absurd (not_refused e h.0)

-- words that are known up to the first unknown one
same-done : (ds : List Declaration) (xs ys : List (List ℕ)) (v w : List ℕ) (vs ws : List (List ℕ)) → AllByRecursion (Known ds) xs → AllByRecursion (Known ds) ys → Unknown ds v → Unknown ds w → xs ++ v ∷ vs ≡ ys ++ w ∷ ws → xs ≡ ys
same-done ds [] [] v w vs ws a b u x e = refl
same-done ds [] (y ∷ ys) v w vs ws a b u x e = let first : v ≡ y = cc in absurd (both_ways _ u (subst (Known ds) (sym first) b.0))
same-done ds (z ∷ xs) [] v w vs ws a b u x e = let first : z ≡ w = cc in absurd (both_ways _ x (subst (Known ds) first a.0))
same-done ds (z ∷ xs) (y ∷ ys) v w vs ws a b u x e =
    let first : z ≡ y = cc in
    let more : xs ++ v ∷ vs ≡ ys ++ w ∷ ws = cc in
    ap₂ (λ h t. h ∷ t) first (same-done ds xs ys v w vs ws a.1 b.1 u x more)

module _ (limit : ℕ) (ds : List Declaration) (line : List ℕ) where
  same_place : (l m : Line line) (p q : ℕ) → WrongWord ds line l p → WrongWord ds line m q → p ≡ q
  same_place l m p q (inl h) (inl g) = h.1 ∙ sym g.1
  same_place l m p q (inl h) (inr g) = absurd (both_ways _ g.0 (subst (Known ds) (one_name line l m) h.0))
  same_place l m p q (inr h) (inl g) = absurd (both_ways _ h.0 (subst (Known ds) (one_name line m l) g.0))
  same_place l m p q (inr h) (inr g) =
      let f = h.1 in
      let k = g.1 in
      let done = same-done ds f.done k.done f.word k.word f.more k.more f.known k.known f.unknown k.unknown (sym f.split ∙ one_wider line l m ∙ k.split) in
      f.place ∙ ap₂ (λ n ws. n + length (tail ws) + 1) (ap length (one_name line l m)) done ∙ sym k.place

  pub same_refused : (e f : Refusal) → Refuses limit ds line e → Refuses limit ds line f → f ≡ e
  same_refused e f (inl h) (inl g) = same_refusal e f 1 0 0 h.1 g.1 refl
  same_refused e f (inl h) (inr (inl g)) = absurd (g.0 h.0)
  same_refused e f (inl h) (inr (inr g)) = absurd (g.0 h.0)
  same_refused e f (inr (inl h)) (inl g) = absurd (h.0 g.0)
  same_refused e f (inr (inl h)) (inr (inl g)) =
      same_refusal e f 2 h.1.0 g.1.0 h.1.2 g.1.2 (breaks-same Line line h.1.0 g.1.0 h.1.1 g.1.1)
  same_refused e f (inr (inl h)) (inr (inr g)) = absurd (breaks-apart Line line h.1.0 h.1.1 g.1.0)
  same_refused e f (inr (inr h)) (inl g) = absurd (h.0 g.0)
  same_refused e f (inr (inr h)) (inr (inl g)) = absurd (breaks-apart Line line g.1.0 g.1.1 h.1.0)
  same_refused e f (inr (inr h)) (inr (inr g)) =
      same_refusal e f 3 h.1.1 g.1.1 h.1.3 g.1.3 (same_place h.1.0 g.1.0 h.1.1 g.1.1 h.1.2 g.1.2)

  -- whatever outcome the rules allow is the one outcome
  pub one_outcome : (after other : List Declaration) (r s : Result ℕ Refusal) → Declares limit ds line after r → Declares limit ds line other s → s ≡ r
  one_outcome after other (Ok k) s h g = let (d, a, is) = h.1 in (accepted limit ds line d a other s g).0 ∙ ap Ok (sym h.0)
  one_outcome after other (Err e) (Ok k) h g = let (d, a, is) = g.1 in absurd (not_refused limit ds line d a e h.0)
  one_outcome after other (Err e) (Err f) h g = ap Err (same_refused e f h.0 g.0)

-- a line that is accepted, by a test
unfoldable pub all-names : List (List ℕ) → Bool
all-names [] = true
all-names (w ∷ ws) = is_name w && all-names ws

unfoldable pub all_listed : List (List ℕ) → List (List ℕ) → Bool
all_listed [] vs = true
all_listed (w ∷ ws) vs = listed w vs && all_listed ws vs

abbrev pub accepts : ℕ → List Declaration → List ℕ → List (List ℕ) → Bool
accepts limit ds name ws =
    is_name name
    && (all-names ws
    && (ltb 0 (length ws)
    && (leb (length (name ++ tail ws)) 1000
    && (leb (length name) 24 && (ltb (length ds) limit && (not (listed name (names ds)) && all_listed ws (names ds)))))))

names-all : (ws : List (List ℕ)) → all-names ws ≡ true → AllByRecursion (λ w. is_name w ≡ true) ws
unfolding all-names
names-all [] h = tt
names-all (w ∷ ws) h = let p = and_parts (is_name w) _ h in (p.0, names-all ws p.1)

listed-all : (ds : List Declaration) (ws : List (List ℕ)) → all_listed ws (names ds) ≡ true → AllByRecursion (Known ds) ws
unfolding all_listed
listed-all ds [] h = tt
listed-all ds (w ∷ ws) h = let p = and_parts (listed w (names ds)) _ h in (p.0, listed-all ds ws p.1)

-- a name at the front of a lawful line is no longer than its first word
front_short : (line : List ℕ) (l : Line line) (w rest : List ℕ) → is_name w ≡ true → line ≡ w ++ rest → length w ≤ length l.name
unfolding tail
front_short line l w rest n e = go l.wider l.some l.whole
  where
    go : (ws : List (List ℕ)) → 0 < length ws → line ≡ l.name ++ tail ws → length w ≤ length l.name
    go [] some whole = absurd (omega arith)
    go (v ∷ vs) some whole =
        elim (cases_lt (length l.name) (length w)) [
          | inl h ↦
              absurd (blank_apart _ (front_at line w rest n e (length l.name) h)
              (ap (λ b. get_or b (length l.name) 0) whole ∙ get_or_at l.name 32 (v ++ tail vs) 0 (length l.name) refl))
          | inr h ↦ h
        ]

pub accepts_is : (limit : ℕ) (ds : List Declaration) (name : List ℕ) (ws : List (List ℕ)) → accepts limit ds name ws ≡ true → Accepts limit ds (name ++ tail ws) (record { name = name; wider = numbers ds ws })
accepts_is limit ds name ws h =
    let a = and_parts (is_name name) _ h in
    let b = and_parts (all-names ws) _ a.1 in
    let c = and_parts (ltb 0 (length ws)) _ b.1 in
    let d = and_parts (leb (length (name ++ tail ws)) 1000) _ c.1 in
    let e = and_parts (leb (length name) 24) _ d.1 in
    let f = and_parts (ltb (length ds) limit) _ e.1 in
    let g = and_parts (not (listed name (names ds))) _ f.1 in
    let l : Line (name ++ tail ws) = record { name = name; wider = ws; named = a.0; each = names-all ws b.0; some = ltb-true _ _ c.0; whole = refl } in
    record {
      words = l;
      within = much l (leb-true _ _ d.0) (leb-true _ _ e.0) (ltb-true _ _ f.0);
      fresh = not-true _ g.0;
      known = listed-all ds ws g.1;
      name = refl;
      wider = refl;
    }
  where
    much : (l : Line (name ++ tail ws)) → length (name ++ tail ws) ≤ 1000 → length l.name ≤ 24 → length ds < limit → TooMuch limit ds (name ++ tail ws) → ⊥
    much l fits short room (inl h) = omega arith
    much l fits short room (inr (inl h)) = omega (arith, front_short (name ++ tail ws) l h.name h.rest h.named h.whole, h.long)
    much l fits short room (inr (inr h)) = omega (arith, h.1)
