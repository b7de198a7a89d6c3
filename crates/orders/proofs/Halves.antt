-- Reading a pair: what its parts read is what it reads.
use Rattle.std.proofs.Common.{◌≡◌, ℕ, ◌+◌, ◌≤◌, true, false, eqb, List, [], ◌∷◌, ◌++◌, length, take, drop, nat_eq, Some, None, Option, sym, refl, ap, ◌∙◌, append_assoc, arith, length-append}
use Rattle.std.proofs.lemmas.List.{drop_at, drop-drop}
use Rattle.std.specs.Cmp.Lexicographic.{pointwise}
use Rattle.std.proofs.lemmas.Option.{none-some}
use Rattle.std.proofs.lemmas.Bool.{both_ways, and_parts, eqb-true}
use Rattle.orders.specs.declared.pair.Both.{Both}
use Rattle.orders.specs.Texts.{Texts, Stands, Back}
use Rattle.orders.specs.Pairs.{joined, pair_texts}

record Parts (o p : Option (List ℕ)) (t : List ℕ) : Type 0 where
  left : List ℕ
  right : List ℕ
  first : o ≡ Some left
  second : p ≡ Some right
  whole : t ≡ left ++ 47 ∷ right

-- the two halves of what is read
both-same : {K : Type 0} (k l : K) (m n : ℕ) → ◌≡◌ {A = Option (K × ℕ)} (Some (k, m)) (Some (l, n)) → (k ≡ l) × (m ≡ n)
both-same {K} k l m n e = let p : ◌≡◌ {A = K × ℕ} (k, m) (l, n) = cc in (ap (λ q. q.0) p, ap (λ q. q.1) p)

parts : (o p : Option (List ℕ)) (t : List ℕ) → joined o p ≡ Some t → Parts o p t
parts (Some l) (Some r) t e = record { left = l; right = r; first = refl; second = refl; whole = cc }
parts (Some l) None t e = absurd (none-some t e)
parts None (Some r) t e = absurd (none-some t e)
parts None None t e = absurd (none-some t e)

-- what is read lies within the bytes
pub stands-within : {K : Type 0} (m : Texts K) (bytes : List ℕ) (k : K) (n : ℕ) → Stands m bytes k n → n ≤ length bytes
stands-within m bytes k n s = omega (arith, s.count, ap length s.whole, length-append s.front s.rest)

-- bytes that begin with a solidus
begins : (bytes : List ℕ) → pointwise nat_eq (take 1 bytes) (47 ∷ []) ≡ true → bytes ≡ 47 ∷ drop 1 bytes
begins [] h = absurd (both_ways false refl h)
begins (b ∷ bs) h = ap (λ x. x ∷ bs) (eqb-true b 47 (and_parts (eqb b 47) _ h).0)

-- the bytes past a solidus
pub past_solidus : (bytes after tail : List ℕ) (taken : ℕ) → after ≡ drop taken bytes → tail ≡ drop 1 after → tail ≡ drop (taken + 1) bytes
past_solidus bytes after tail taken e d = d ∙ ap (drop 1) e ∙ drop-drop 1 taken bytes

module _ {K L : Type 0} (m : Texts K) (n : Texts L) (bytes : List ℕ) where
  -- a pair's text in the bytes, by its parts
  record Found (r : Option (K × ℕ)) (x : Both K L) (t rest : List ℕ) : Type 0 where
    left : List ℕ
    right : List ℕ
    first : r ≡ Some (x.first, length left)
    second : n.text x.second ≡ Some right
    text : t ≡ left ++ 47 ∷ right
    whole : bytes ≡ left ++ 47 ∷ (right ++ rest)

  found : (r : Option (K × ℕ)) → Back m bytes r → (x : Both K L) (t rest : List ℕ) → joined (m.text x.first) (n.text x.second) ≡ Some t → bytes ≡ t ++ rest → Found r x t rest
  found r back x t rest e w =
      let p = parts _ _ t e in
      let whole : bytes ≡ p.left ++ 47 ∷ (p.right ++ rest) =
      w ∙ ap (λ u. u ++ rest) p.whole ∙ append_assoc p.left (47 ∷ p.right) rest in
      record {
        left = p.left;
        right = p.right;
        first = back x.first p.left (47 ∷ (p.right ++ rest)) p.first refl whole;
        second = p.second;
        text = p.whole;
        whole = whole;
      }

  pub none_first : (r : Option (K × ℕ)) → r ≡ None → Back m bytes r → Back (pair_texts m n) bytes None
  none_first r e back x t rest text s w =
      let f = found r back x t rest text w in
      let z : ◌≡◌ {A = ℕ} 0 1 = cc f.first in
      absurd (omega arith)

  module _ (k : K) (taken : ℕ) (back : Back m bytes (Some (k, taken))) where
    at_left : (x : Both K L) (t rest : List ℕ) (f : Found (Some (k, taken)) x t rest) → length f.left ≡ taken
    at_left x t rest f = sym (both-same _ _ _ _ f.first).1

    at_solidus : (x : Both K L) (t rest : List ℕ) (f : Found (Some (k, taken)) x t rest) → drop taken bytes ≡ 47 ∷ (f.right ++ rest)
    at_solidus x t rest f =
        ap (drop taken) f.whole ∙ drop_at f.left (47 ∷ (f.right ++ rest)) taken (at_left x t rest f)

    past_left : (x : Both K L) (t rest : List ℕ) (f : Found (Some (k, taken)) x t rest) → drop (taken + 1) bytes ≡ f.right ++ rest
    past_left x t rest f = sym (drop-drop 1 taken bytes) ∙ ap (drop 1) (at_solidus x t rest f)

    pub none_solidus : (tail : List ℕ) → tail ≡ drop taken bytes → pointwise nat_eq (take 1 tail) (47 ∷ []) ≡ false → Back (pair_texts m n) bytes None
    none_solidus tail d h x t rest text s w =
        let f = found (Some (k, taken)) back x t rest text w in
        let e : tail ≡ 47 ∷ (f.right ++ rest) = d ∙ at_solidus x t rest f in
        absurd (both_ways false refl (sym h ∙ ap (λ y. pointwise nat_eq (take 1 y) (47 ∷ [])) e))

    pub none-second : (tail : List ℕ) (r : Option (L × ℕ)) → tail ≡ drop (taken + 1) bytes → r ≡ None → Back n tail r → Back (pair_texts m n) bytes None
    none-second tail r d e more x t rest text s w =
        let f = found (Some (k, taken)) back x t rest text w in
        let g = more x.second f.right rest f.second s (d ∙ past_left x t rest f) in
        let z : ◌≡◌ {A = ℕ} 0 1 = cc (g, e) in
        absurd (omega arith)

    pub reads_both : (tail : List ℕ) (l : L) (count : ℕ) → tail ≡ drop (taken + 1) bytes → Back n tail (Some (l, count)) → Back (pair_texts m n) bytes (Some (record { first = k; second = l }, taken + 1 + count))
    reads_both tail l count d more x t rest text s w =
        let f = found (Some (k, taken)) back x t rest text w in
        let g = more x.second f.right rest f.second s (d ∙ past_left x t rest f) in
        let e = at_left x t rest f in
        let a = (both-same k x.first _ _ f.first).0 in
        let b = both-same l x.second _ _ g in
        let len : taken + 1 + count ≡ length t =
        omega (arith, ap length f.text, length-append f.left (47 ∷ f.right), b.1) in
        λ i. Some (record { first = a i; second = b.0 i }, len i)

  pub stands-both : (k : K) (l : L) (taken count : ℕ) (after tail : List ℕ) → after ≡ drop taken bytes → pointwise nat_eq (take 1 after) (47 ∷ []) ≡ true → tail ≡ drop 1 after → Stands m bytes k taken → Stands n tail l count → Stands (pair_texts m n) bytes (record { first = k; second = l }) (taken + 1 + count)
  stands-both k l taken count after tail e at d a b =
      let r : a.rest ≡ 47 ∷ (b.front ++ b.rest) =
      sym (drop_at a.front a.rest taken (sym a.count)) ∙ ap (drop taken) (sym a.whole) ∙ sym e ∙ begins after at
      ∙ cc (d, b.whole) in
      record {
        front = a.front ++ 47 ∷ b.front;
        rest = b.rest;
        text = rw (a.text, b.text);
        stop = b.stop;
        whole = a.whole ∙ ap (λ u. a.front ++ u) r ∙ sym (append_assoc a.front (47 ∷ b.front) b.rest);
        count = omega (arith, length-append a.front (47 ∷ b.front), a.count, b.count);
      }
