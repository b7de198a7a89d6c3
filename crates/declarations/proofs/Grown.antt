-- The rows of declared kinds are right: bit j of row i is set exactly when kind j is at or under kind i.
use Rattle.std.proofs.Common.{◌≡◌, ℕ, zero, suc, ◌+◌, ◌^◌, ◌<◌, ◌≤◌, Bool, true, false, ◌||◌, eqb, ◌⊎◌, List, [], ◌∷◌, ◌++◌, map, length, Decides, sym, refl, ap, ◌∙◌, subst, inl, inr, append_assoc, pow-suc, add-one, arith}
use lib.Bits.{bit_and, bit_or, or_lt, and_le_l}
use Rattle.std.proofs.lemmas.Nat.{pow_below}
use Rattle.std.proofs.lemmas.List.{append-nil, get_or_append_left, get_or_push, get_or-map, length-map, length_push}
use Rattle.std.proofs.lemmas.Bool.{and_parts, and_from, or_right, eqb-true, eq-eqb, ne_eqb, both_ways, cases_lt, cases_eq, cases_Bool, cond-true, cond-false}
use Rattle.declarations.specs.Declarations.{Declaration, stray, wider_of, among, Under, sound, follows, follow_on}
use Rattle.declarations.specs.Declarations.Under.{itself, above}
use Rattle.declarations.specs.Rows.{bit, mask_of, grown, add_row, add_rows, rows_of, row}
use Rattle.declarations.proofs.Binary.{bit-none, bit-bit_and, bit-bit_or, bit-pow, bit_past, lowest}
use Rattle.declarations.proofs.Sound.{follows_parts, among_below, earlier, sound_push}

pub bit_mask : (xs : List ℕ) (w : ℕ) → bit (mask_of xs) w ≡ among w xs
unfolding mask_of among
bit_mask [] w = bit-none w
bit_mask (x ∷ xs) w = bit-bit_or (2 ^ x) (mask_of xs) w ∙ cc (bit-pow x w, bit_mask xs w)

-- two numbers with a bit in common
pub share : (n a b : ℕ) → a < 2 ^ n → (bit_and a b ≡ 0 → ⊥) → (w : ℕ) × (w < n) × (bit a w ≡ true) × (bit b w ≡ true)
share n a b l ne =
    let low = lowest n (bit_and a b) (omega (arith, and_le_l a b)) ne in
    let p = and_parts _ _ (sym (bit-bit_and a b _) ∙ low.set) in
    (_, low.within, p.0, p.1)

pub shared : (a b w : ℕ) → bit a w ≡ true → bit b w ≡ true → bit_and a b ≡ 0 → ⊥
shared a b w p q e =
    both_ways _ (bit-none w) (sym (ap (λ r. bit r w) e) ∙ bit-bit_and a b w ∙ and_from _ _ p q)

pub record Right (ds : List Declaration) (rows : List ℕ) : Type 0 where
  pub size : length rows ≡ length ds
  pub bound : (i : ℕ) → i < length ds → row rows i < 2 ^ length ds
  pub right : (i j : ℕ) → i < length ds → j < length ds → Decides (bit (row rows i) j) (Under ds j i)

-- one declaration more changes nothing between the kinds before it
module _ (ds : List Declaration) (d : Declaration) (before : (k w : ℕ) → among w (wider_of ds k) ≡ true → w < k) where
  wider-kept : (k : ℕ) → k < length ds → wider_of (ds ++ d ∷ []) k ≡ wider_of ds k
  wider-kept k l = ap (λ e. e.wider) (get_or_append_left ds (d ∷ []) stray k l)

  wider_new : wider_of (ds ++ d ∷ []) (length ds) ≡ d.wider
  wider_new = ap (λ e. e.wider) (get_or_push ds d stray (length ds) refl)

  pub under_more : {j i : ℕ} → j < length ds → Under ds j i → Under (ds ++ d ∷ []) j i
  under_more l itself = itself
  under_more {j} l (above {w = w} a u) = above (rw (wider-kept j l) a) (under_more (omega (arith, before j w a)) u)

  pub under_less : {j i : ℕ} → j < length ds → Under (ds ++ d ∷ []) j i → Under ds j i
  under_less l itself = itself
  under_less {j} l (above {w = w} a u) =
      let b : among w (wider_of ds j) ≡ true = subst (λ v. among w v ≡ true) (wider-kept j l) a in
      above b (under_less (omega (arith, before j w b)) u)

  -- the new kind
  under_new : (inside : (w : ℕ) → among w d.wider ≡ true → w < length ds) → (j i : ℕ) → j ≡ length ds → Under (ds ++ d ∷ []) j i → (i ≡ length ds) ⊎ ((w : ℕ) × (among w d.wider ≡ true) × Under ds w i)
  under_new inside j i e itself = inl e
  under_new inside j i e (above {w = w} a u) =
      let b : among w d.wider ≡ true = subst (λ v. among w v ≡ true) (ap (wider_of (ds ++ d ∷ [])) e ∙ wider_new) a in
      inr (w, b, under_less (inside w b) u)

  new_under : (inside : (w : ℕ) → among w d.wider ≡ true → w < length ds) → (w i : ℕ) → among w d.wider ≡ true → Under ds w i → Under (ds ++ d ∷ []) (length ds) i
  new_under inside w i a u = above (rw wider_new a) (under_more (inside w a) u)

-- what is at or under a kind has no lower number
le_of_under : {ds : List Declaration} (before : (k w : ℕ) → among w (wider_of ds k) ≡ true → w < k) {k l : ℕ} → Under ds k l → l ≤ k
le_of_under before itself = omega arith
le_of_under before {k} (above {w = w} a u) = omega (arith, before k w a, le_of_under before u)

-- what a row says once a kind is declared
grown_old : (n mask r j : ℕ) → j < n → bit (grown n mask r) j ≡ bit r j
grown_old n mask r j l =
    elim (cases_Bool (eqb (bit_and r mask) 0)) [
      | inl t ↦ ap (λ v. bit v j) (cond-true _ r (bit_or r (2 ^ n)) t)
      | inr f ↦
          ap (λ v. bit v j) (cond-false _ r (bit_or r (2 ^ n)) f) ∙ bit-bit_or r (2 ^ n) j
          ∙ old (bit r j) (bit (2 ^ n) j) (bit-pow n j ∙ ne_eqb j n (omega arith))
    ]
  where
    old : (x y : Bool) → y ≡ false → (x || y) ≡ x
    old true y e = refl
    old false y e = e

grown_new : (n mask r : ℕ) → r < 2 ^ n → Decides (bit (grown n mask r) n) (bit_and r mask ≡ 0 → ⊥)
grown_new n mask r l =
    elim (cases_eq (bit_and r mask) 0) [
      | inl e ↦
          let is = ap (λ v. bit v n) (cond-true _ r (bit_or r (2 ^ n)) (eq-eqb _ _ e)) ∙ bit_past n r n l (omega arith) in
          (λ t. absurd (both_ways _ is t), λ ne. absurd (ne e))
      | inr ne ↦
          let is = ap (λ v. bit v n) (cond-false _ r (bit_or r (2 ^ n)) (ne_eqb _ _ ne)) ∙ bit-bit_or r (2 ^ n) n
          ∙ or_right (bit r n) (bit (2 ^ n) n) (bit-pow n n ∙ eq-eqb n n refl) in
          (λ _. ne, λ _. is)
    ]

grown_bound : (n mask r : ℕ) → r < 2 ^ n → grown n mask r < 2 ^ suc n
grown_bound n mask r l =
    let p = pow-suc 2 n in
    elim (cases_Bool (eqb (bit_and r mask) 0)) [
      | inl t ↦ rw (cond-true _ r (bit_or r (2 ^ n)) t) (omega arith)
      | inr f ↦ rw (cond-false _ r (bit_or r (2 ^ n)) f) (or_lt (suc n) r (2 ^ n) (omega arith) (pow_below n (suc n) (omega arith)))
    ]

module _ (ds : List Declaration) (d : Declaration) (rows : List ℕ) (r : Right ds rows)
    (before : (k w : ℕ) → among w (wider_of ds k) ≡ true → w < k)
    (inside : (w : ℕ) → among w d.wider ≡ true → w < length ds) where
  old_row : (i : ℕ) → i < length ds → row (add_row rows (mask_of d.wider)) i ≡ grown (length ds) (mask_of d.wider) (row rows i)
  old_row i l =
      let s = r.size in
      let m = length-map rows (grown (length rows) (mask_of d.wider)) in
      get_or_append_left (map (grown (length rows) (mask_of d.wider)) rows) (2 ^ length rows ∷ []) 0 i (omega arith)
      ∙ get_or-map (grown (length rows) (mask_of d.wider)) rows i 0 0 (omega arith)
      ∙ ap (λ n. grown n (mask_of d.wider) (row rows i)) s

  new_row : row (add_row rows (mask_of d.wider)) (length ds) ≡ 2 ^ length ds
  new_row =
      get_or_push (map (grown (length rows) (mask_of d.wider)) rows) (2 ^ length rows) 0 (length ds) (length-map rows (grown (length rows) (mask_of d.wider)) ∙ r.size)
      ∙ ap (λ n. 2 ^ n) r.size

  size_more : length (ds ++ d ∷ []) ≡ length ds + 1
  size_more = length_push ds d

  -- the new kind is at or under kind i exactly when one of its wider kinds is
  new_bit : (i : ℕ) → i < length ds → Decides (bit (grown (length ds) (mask_of d.wider) (row rows i)) (length ds)) (Under (ds ++ d ∷ []) (length ds) i)
  new_bit i l =
      let g = grown_new (length ds) (mask_of d.wider) (row rows i) (r.bound i l) in (
        λ t.
            let (w, lt, a, b) = share (length ds) (row rows i) (mask_of d.wider) (r.bound i l) (g.0 t) in
            new_under ds d before inside w i (sym (bit_mask d.wider w) ∙ b) ((r.right i w l lt).0 a),
        λ u.
            g.1 (λ e.
            elim (under_new ds d before inside (length ds) i refl u) [
              | inl z ↦ omega arith
              | inr q ↦
                  let (w, a, v) = q in
                  shared (row rows i) (mask_of d.wider) w ((r.right i w l (inside w a)).1 v) (bit_mask d.wider w ∙ a) e
            ]),
      )

  bound_more : (i : ℕ) → i < length (ds ++ d ∷ []) → row (add_row rows (mask_of d.wider)) i < 2 ^ length (ds ++ d ∷ [])
  bound_more i l =
      let s : length (ds ++ d ∷ []) ≡ suc (length ds) = size_more ∙ add-one (length ds) in
      rw s (elim (cases_lt i (length ds)) [
        | inl h ↦ rw (old_row i h) (grown_bound (length ds) (mask_of d.wider) (row rows i) (r.bound i h))
        | inr h ↦
            let e : i ≡ length ds = omega arith in
            rw (e, new_row) (pow_below (length ds) (suc (length ds)) (omega arith))
      ])

  right-more : (i j : ℕ) → i < length (ds ++ d ∷ []) → j < length (ds ++ d ∷ []) → Decides (bit (row (add_row rows (mask_of d.wider)) i) j) (Under (ds ++ d ∷ []) j i)
  right-more i j l m =
      let s = size_more in
      elim (cases_lt i (length ds)) [
        | inl h ↦
            rw (old_row i h) (elim (cases_lt j (length ds)) [
              | inl k ↦
                  let e = grown_old (length ds) (mask_of d.wider) (row rows i) j k in
                  (λ t. under_more ds d before k ((r.right i j h k).0 (sym e ∙ t)), λ u. e ∙ (r.right i j h k).1 (under_less ds d before k u))
              | inr k ↦ let e : j ≡ length ds = omega arith in rw e (new_bit i h)
            ])
        | inr h ↦
            let e : i ≡ length ds = omega arith in
            let is : bit (row (add_row rows (mask_of d.wider)) i) j ≡ eqb j (length ds) = ap (λ v. bit (row (add_row rows (mask_of d.wider)) v) j) e ∙ ap (λ v. bit v j) new_row ∙ bit-pow (length ds) j in (
              λ t. let q : j ≡ i = eqb-true j (length ds) (sym is ∙ t) ∙ sym e in rw q itself,
              λ u. is ∙ eq-eqb j (length ds) (new_only j i e m u),
            )
      ]
    where
      -- nothing but itself is at or under the newest kind
      new_only : (j i : ℕ) → i ≡ length ds → j < length (ds ++ d ∷ []) → Under (ds ++ d ∷ []) j i → j ≡ length ds
      new_only j i e m u =
          elim (cases_lt j (length ds)) [
            | inl k ↦ absurd (omega (arith, le_of_under before (under_less ds d before k u)))
            | inr k ↦ omega (arith, size_more)
          ]

  pub right_push : Right (ds ++ d ∷ []) (add_row rows (mask_of d.wider))
  right_push =
      record {
        size = length_push (map (grown (length rows) (mask_of d.wider)) rows) (2 ^ length rows) ∙ ap (λ n. n + 1) (length-map rows (grown (length rows) (mask_of d.wider)) ∙ r.size) ∙ sym size_more;
        bound = bound_more;
        right = right-more;
      }

inside_of : (before : List Declaration) (d : Declaration) → follows before d ≡ true → (w : ℕ) → among w d.wider ≡ true → w < length before
inside_of before d f w a = among_below (length before) w d.wider (follows_parts before d f).earlier a

right_on : (before ds : List Declaration) (rows : List ℕ) → sound before ≡ true → follow_on before ds ≡ true → Right before rows → Right (before ++ ds) (add_rows rows ds)
unfolding follow_on add_rows
right_on before [] rows s h r = rw (append-nil before) r
right_on before (d ∷ ds) rows s h r =
    let p = and_parts (follows before d) _ h in
    let more = right_push before d rows r (earlier before s) (inside_of before d p.0) in
    rw (← append_assoc before (d ∷ []) ds)
    (right_on (before ++ d ∷ []) ds (add_row rows (mask_of d.wider)) (sound_push before d s p.0) p.1 more)

right-any : (d : Declaration) → length d.wider ≡ 0 → Right (d ∷ []) (add_row [] (mask_of d.wider))
unfolding bit
right-any d e =
    record {
      size = refl;
      bound = elim [ zero ↦ λ l. omega arith | suc i ↦ λ l. absurd (omega arith) ];
      right = λ i j l m. let a : i ≡ 0 = omega arith in let b : j ≡ 0 = omega arith in rw (a, b) (λ _. itself, λ _. refl);
    }

-- the rows of sound declarations
pub rows_right : (ds : List Declaration) → sound ds ≡ true → Right ds (rows_of ds)
unfolding add_rows follow_on
rows_right [] s = absurd (both_ways false refl s)
rows_right (d ∷ ds) s =
    let p = and_parts _ (follow_on (d ∷ []) ds) s in
    let q = and_parts _ (eqb (length d.wider) 0) p.0 in
    right_on (d ∷ []) ds (add_row [] (mask_of d.wider)) (and_from _ _ p.0 refl) p.1 (right-any d (eqb-true _ _ q.1))

add_rows_push : (rows : List ℕ) (ds : List Declaration) (d : Declaration) → add_rows rows (ds ++ d ∷ []) ≡ add_row (add_rows rows ds) (mask_of d.wider)
unfolding add_rows
add_rows_push rows [] d = refl
add_rows_push rows (e ∷ ds) d = add_rows_push (add_row rows (mask_of e.wider)) ds d

-- the rows with one declaration more
pub rows_push : (ds : List Declaration) (d : Declaration) → rows_of (ds ++ d ∷ []) ≡ add_row (rows_of ds) (mask_of d.wider)
rows_push ds d = add_rows_push [] ds d
