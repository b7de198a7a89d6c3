-- The words are declared one after the other.
use Rattle.std.proofs.Common.{◌≡◌, ℕ, zero, suc, ◌+◌, ◌<◌, ◌≤◌, true, false, List, [], ◌∷◌, ◌++◌, length, get_or, take, is_ok, Ok, nat_le, nat_lt, Result, sym, refl, ap, ◌∙◌, subst, inl, inr, length-append, Bor, map, arith}
use Rattle.std.proofs.lemmas.List.{take_more, get_or-map, length-map}
use Rattle.std.proofs.lemmas.Bool.{leb-true, ltb-true}
use Rattle.refusals.specs.declared.Refusal.{Refusal}
use Rattle.declarations.specs.Names.{is_name, all_name, listed}
use Rattle.features.specs.Lines.{TooMuch, Accepts, Declares}
use Rattle.settings.specs.Words.{words}

-- a short new name is accepted where there is room for it
accepts_short : (features : List (List ℕ)) (line : List ℕ) → is_name line ≡ true → nat_le (length line) 24 ≡ true → listed line features ≡ false → nat_lt (length features) 16 ≡ true
    → Accepts features line
accepts_short features line n s f r = record { lawful = n; within = not_much; fresh = f } where
  short : length line ≤ 24
  short = leb-true (length line) 24 s

  room : length features < 16
  room = ltb-true (length features) 16 r

  not_much : TooMuch features line → ⊥
  not_much (inl h) = omega (arith, short)
  not_much (inr (inl h)) = omega (arith, ap length h.whole, length-append h.name h.rest, h.long, short)
  not_much (inr (inr h)) = omega (arith, h.1, room)

-- each word is accepted behind those before it
accepted : (i : ℕ) → i < 7 → Accepts (take i words) (get_or words i [])
unfolding all_name listed
accepted zero l = accepts_short _ _ refl refl refl refl
accepted (suc zero) l = accepts_short _ _ refl refl refl refl
accepted (suc (suc zero)) l = accepts_short _ _ refl refl refl refl
accepted (suc (suc (suc zero))) l = accepts_short _ _ refl refl refl refl
accepted (suc (suc (suc (suc zero)))) l = accepts_short _ _ refl refl refl refl
accepted (suc (suc (suc (suc (suc zero))))) l = accepts_short _ _ refl refl refl refl
accepted (suc (suc (suc (suc (suc (suc zero)))))) l = accepts_short _ _ refl refl refl refl
accepted (suc (suc (suc (suc (suc (suc (suc i))))))) l = absurd (omega arith)

-- declaring the word with this number behind those before it
module _ (i : ℕ) (l : i < 7) (before after : List (List ℕ)) (word : List ℕ) (r : Result ℕ Refusal) (so_far : before ≡ take i words) (is : word ≡ get_or words i [])
    (answer : Declares before word after r) (fixed : (s : Result ℕ Refusal) (t : List (List ℕ)) → Declares before word t s → s ≡ r) where
  here : Accepts before word
  here = subst (λ w. Accepts before w) (sym is) (subst (λ f. Accepts f (get_or words i [])) (sym so_far) (accepted i l))

  was : Ok (length before) ≡ r
  was = fixed (Ok (length before)) (before ++ word ∷ []) (here, refl, refl)

  pub not_refused : is_ok r ≡ true
  not_refused = ap is_ok (sym was)

  pub one_more : after ≡ take (i + 1) words
  one_more =
      (subst (λ x. Declares before word after x) (sym was) answer).2
      ∙ ap (λ f. f ++ word ∷ []) so_far ∙ ap (λ w. take i words ++ w ∷ []) is ∙ sym (take_more words i [] l)

-- the words that are to be declared, one by one
module _ (names : List (Bor (List ℕ))) (is : map (λ name. name.now) names ≡ words) where
  pub seven : length names ≡ 7
  seven = sym (length-map names (λ name. name.now)) ∙ ap length is

  pub named : (i : ℕ) (d : Bor (List ℕ)) → i < length names → (get_or names i d).now ≡ get_or words i []
  named i d l = sym (get_or-map (λ name. name.now) names i d [] l) ∙ ap (λ xs. get_or xs i []) is
