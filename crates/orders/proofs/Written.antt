-- Writing a pair: the first text, a solidus and the second text.
use Rattle.std.proofs.Common.{◌≡◌, ℕ, ◌+◌, ◌-◌, ◌<◌, ◌≤◌, ◌⊎◌, List, [], ◌∷◌, ◌++◌, length, take, drop, set, Some, None, Option, sym, refl, ap, ◌∙◌, inl, inr, append_assoc, arith, length-append, length-drop, length-set}
use borrow.Rule.Slice.PartMut.{put_mid}
use Rattle.std.proofs.lemmas.List.{append-nil, take_rest, take_more_set, take_at, drop_at, drop-drop, drop_all, drop-set-lt}
use Rattle.std.proofs.lemmas.Bool.{cases_lt}
use Rattle.orders.specs.Texts.{Writes, IsText}
use Rattle.orders.specs.Pairs.{joined}

-- the texts of an order are no empty ones
abbrev pub Lawful : Option (List ℕ) → Type 0
Lawful o = (t : List ℕ) → o ≡ Some t → IsText t

pub no_first : (o p : Option (List ℕ)) (before mid after : List ℕ) (n : ℕ) → Lawful o → length mid ≡ length before → Writes o before mid n → (n ≡ 0) ⊎ (length mid ≤ n) → Writes (joined o p) before after 0
no_first None None before mid after n h e w s = refl
no_first None (Some u) before mid after n h e w s = refl
no_first (Some t) None before mid after n h e w s = refl
no_first (Some t) (Some u) before mid after n h e w s =
    let some = (h t refl).0 in
    let l = length-append t (47 ∷ u) in
    (λ fits. let q = w.0 (omega arith) in absurd (elim s [ inl z ↦ omega arith | inr z ↦ omega arith ]), λ _. refl)

pub no_second : (o p : Option (List ℕ)) (before mid tail last after : List ℕ) (n more : ℕ) → Lawful p → length mid ≡ length before → Writes o before mid n → length tail ≡ length mid - (n + 1) → Writes p tail last more → more ≡ 0 → Writes (joined o p) before after 0
no_second None None before mid tail last after n more h e w l v none = refl
no_second None (Some u) before mid tail last after n more h e w l v none = refl
no_second (Some t) None before mid tail last after n more h e w l v none = refl
no_second (Some t) (Some u) before mid tail last after n more h e w l v none =
    let some = (h u refl).0 in
    let a = length-append t (47 ∷ u) in
    (λ fits. let q = w.0 (omega arith) in let z = v.0 (omega arith) in absurd (omega arith), λ _. refl)

-- a text that was written fits
fits : (t before : List ℕ) (n : ℕ) → (n ≡ 0 → ⊥) → (length before < length t → n ≡ 0) → length t ≤ length before
fits t before n ne h = elim (cases_lt (length before) (length t)) [ inl l ↦ absurd (ne (h l)) | inr l ↦ l ]

-- the memory after a solidus at n and the part past it
after_is : (t u before mid tail last : List ℕ) (n k : ℕ) → n ≡ length t → n < length mid → mid ≡ t ++ drop n before → tail ≡ drop (n + 1) (set mid n 47) → k ≡ length tail → last ≡ u ++ drop (length u) tail → length last ≡ k → put_mid (n + 1) k (set mid n 47) last ≡ (t ++ 47 ∷ u) ++ drop (n + 1 + length u) before
after_is t u before mid tail last n k e l m d s w z =
    let front : take (n + 1) (set mid n 47) ≡ t ++ 47 ∷ [] =
    take_more_set mid n 47 l ∙ ap (λ x. x ++ 47 ∷ []) (ap (take n) m ∙ take_at t (drop n before) n (sym e)) in
    let over : tail ≡ drop (n + 1) before =
    d ∙ drop-set-lt (n + 1) mid n 47 (omega arith) ∙ sym (drop-drop 1 n mid) ∙ ap (drop 1) (ap (drop n) m ∙ drop_at t (drop n before) n (sym e)) ∙ drop-drop 1 n before in
    let none : drop k (drop (n + 1) (set mid n 47)) ≡ [] = drop_all k _ (omega (arith, ap length d)) in
    let rest : last ≡ u ++ drop (n + 1 + length u) before =
    w ∙ ap (λ x. u ++ drop (length u) x) over ∙ ap (λ x. u ++ x) (drop-drop (length u) (n + 1) before) in
    let all : last ++ [] ≡ u ++ drop (n + 1 + length u) before = append-nil last ∙ rest in
    rw (front, none, all) (append_assoc t (47 ∷ []) (u ++ drop (n + 1 + length u) before) ∙ sym (append_assoc t (47 ∷ u) (drop (n + 1 + length u) before)))

pub both-written : (o p : Option (List ℕ)) (before mid tail last : List ℕ) (n k more : ℕ) → length mid ≡ length before → Writes o before mid n → (n ≡ 0 → ⊥) → n < length mid → tail ≡ drop (n + 1) (set mid n 47) → k ≡ length tail → length last ≡ k → Writes p tail last more → (more ≡ 0 → ⊥) → Writes (joined o p) before (put_mid (n + 1) k (set mid n 47) last) (n + 1 + more)
both-written None None before mid tail last n k more e w ne l d s z v me = absurd (ne w)
both-written None (Some u) before mid tail last n k more e w ne l d s z v me = absurd (ne w)
both-written (Some t) None before mid tail last n k more e w ne l d s z v me = absurd (me v)
both-written (Some t) (Some u) before mid tail last n k more e w ne l d s z v me =
    let a = length-append t (47 ∷ u) in
    let lt : length tail ≡ length mid - (n + 1) = ap length d ∙ length-drop (n + 1) (set mid n 47) ∙ ap (λ x. x - (n + 1)) (length-set mid n 47) in
    let tf : length t ≤ length before = fits t before n ne w.1 in
    let uf : length u ≤ length tail = fits u tail more me v.1 in
    let p = w.0 tf in
    let q = v.0 uf in
    let m : mid ≡ t ++ drop n before = p.1 ∙ ap (λ x. t ++ drop x before) (sym p.0) in
    let len : n + 1 + length u ≡ length (t ++ 47 ∷ u) = omega arith in
    (λ _. (omega arith, after_is t u before mid tail last n k p.0 l m d s q.1 z ∙ ap (λ x. (t ++ 47 ∷ u) ++ drop x before) len), λ short. absurd (omega arith))

-- how long the part past a solidus at n is
pub rest-length : (mid : List ℕ) (n : ℕ) → length (take (length (set mid n 47) - (n + 1)) (drop (n + 1) (set mid n 47))) ≡ length mid - (n + 1)
rest-length mid n = ap length (take_rest (set mid n 47) (n + 1)) ∙ length-drop (n + 1) (set mid n 47) ∙ ap (λ x. x - (n + 1)) (length-set mid n 47)

pub rest-count : (mid : List ℕ) (n : ℕ) → length (set mid n 47) - (n + 1) ≡ length (take (length (set mid n 47) - (n + 1)) (drop (n + 1) (set mid n 47)))
rest-count mid n = sym (ap length (take_rest (set mid n 47) (n + 1)) ∙ length-drop (n + 1) (set mid n 47))
