-- What is still to come of a lawful line from each state of the scanner.
use Rattle.std.proofs.Common.{◌≡◌, ℕ, zero, suc, ◌+◌, Bool, true, false, cond, eqb, ◌⊎◌, List, [], ◌∷◌, ◌++◌, length, Some, None, Option, sym, refl, ap, ◌∙◌, subst, inl, inr, arith}
use Rattle.std.proofs.lemmas.List.{append_assoc}
use Rattle.std.proofs.lemmas.Bool.{eqb-true}
use Rattle.std.proofs.lemmas.Option.{none-some}
use Rattle.declarations.specs.Names.{name_byte}
use Rattle.orders.specs.Texts.{text_byte}
use Rattle.grammar.specs.Words.{name_letter, all_by, is_variable, is_feature, is_text}
use Rattle.grammar.specs.Trees.{Tree, Items, bare, described, none, item, written, listing, more, Limits, LawfulTree, LawfulList, LawfulItems}
use Rattle.grammar.specs.Scanner.{begin, in_name, colon, in_kind, comma, in_feature, equals, closed, State, state, kept_if, closing}

-- what is still to come after a whole term, where d lists are open
abbrev pub Tail : Limits → ℕ → List ℕ → Type 0
Tail L zero bs = bs ≡ []
Tail L (suc d) bs = (rest : Items) × (after : List ℕ) × LawfulItems L (suc d) rest × (bs ≡ more rest ++ after) × Tail L d after

-- after a kind text; before a term; before a kind text; after a name
abbrev pub AfterText : Limits → ℕ → List ℕ → Type 0
AfterText L d bs = (items : Items) × (after : List ℕ) × LawfulList L d items × (bs ≡ listing items ++ after) × Tail L d after

abbrev pub BeforeTerm : Limits → ℕ → List ℕ → Type 0
BeforeTerm L d bs = (t : Tree) × (after : List ℕ) × LawfulTree L d t × (bs ≡ written t ++ after) × Tail L d after

abbrev pub BeforeText : Limits → ℕ → List ℕ → Type 0
BeforeText L d bs = (k : List ℕ) × (cs : List ℕ) × (is_text k ≡ true) × (bs ≡ k ++ cs) × AfterText L d cs

abbrev pub AfterName : Limits → ℕ → List ℕ → Type 0
AfterName L d bs = Tail L d bs ⊎ ((cs : List ℕ) × (bs ≡ 58 ∷ cs) × BeforeText L d cs)

-- what is still to come from each state
abbrev pub Rest : Limits → State → List ℕ → Type 0
Rest L (state begin d) bs = BeforeTerm L d bs
Rest L (state (in_name n) d) bs =
    L.word n ≡ true
    → (w : List ℕ) × (cs : List ℕ) × (all_by name_letter w ≡ true) × (L.word (n + length w) ≡ true) × (bs ≡ w ++ cs) × AfterName L d cs
Rest L (state colon d) bs = BeforeText L d bs
Rest L (state in_kind d) bs = (k : List ℕ) × (cs : List ℕ) × (all_by text_byte k ≡ true) × (bs ≡ k ++ cs) × AfterText L d cs
Rest L (state comma d) bs =
    (f : List ℕ) × (cs : List ℕ) × (is_feature f ≡ true) × (L.word (length f) ≡ true) × (bs ≡ f ++ 61 ∷ 62 ∷ cs) × BeforeTerm L d cs
Rest L (state (in_feature n) d) bs =
    L.word n ≡ true
    → (w : List ℕ) × (cs : List ℕ) × (all_by name_byte w ≡ true) × (L.word (n + length w) ≡ true) × (bs ≡ w ++ 61 ∷ 62 ∷ cs) × BeforeTerm L d cs
Rest L (state equals d) bs = (cs : List ℕ) × (bs ≡ 62 ∷ cs) × BeforeTerm L d cs
Rest L (state closed d) bs = Tail L d bs

some_is : (s q : State) → Some s ≡ Some q → s ≡ q
some_is s q e = cc

pub kept_is : (b : Bool) (s q : State) → kept_if b s ≡ Some q → (b ≡ true) × (s ≡ q)
kept_is true s q e = (refl, some_is s q e)
kept_is false s q e = absurd (none-some q e)

pub by_cond : (c : Bool) (x o : Option State) (q : State) → cond c x o ≡ Some q → ((c ≡ true) × (x ≡ Some q)) ⊎ ((c ≡ false) × (o ≡ Some q))
by_cond true x o q e = inl (refl, e)
by_cond false x o q e = inr (refl, e)

-- a byte that is known, before others
pub first_is : (b c : ℕ) (bs cs : List ℕ) → eqb b c ≡ true → bs ≡ cs → b ∷ bs ≡ c ∷ cs
first_is b c bs cs e f = ap (λ x. x ∷ bs) (eqb-true b c e) ∙ ap (λ x. c ∷ x) f

split-item : (f x y z : List ℕ) → f ++ 61 ∷ 62 ∷ (x ++ (y ++ z)) ≡ (f ++ 61 ∷ 62 ∷ (x ++ y)) ++ z
split-item f x y z = simp append_assoc

split-named : (n k x y : List ℕ) → n ++ 58 ∷ (k ++ (x ++ y)) ≡ ((n ++ 58 ∷ []) ++ (k ++ x)) ++ y
split-named n k x y = simp append_assoc

module _ (L : Limits) where
  pub is_at : (s : State) (bs : List ℕ) (q : State) → Some s ≡ Some q → Rest L q bs → Rest L s bs
  is_at s bs q e r = subst (λ x. Rest L x bs) (sym (some_is s q e)) r

  pub back_item : (d : ℕ) (bs : List ℕ) → Rest L (state comma (suc d)) bs
      → (f : List ℕ) × (t : Tree) × (rest : Items) × (after : List ℕ) × (is_feature f ≡ true) × (L.word (length f) ≡ true)
      × LawfulTree L (suc d) t × LawfulItems L (suc d) rest × (bs ≡ (f ++ 61 ∷ 62 ∷ (written t ++ more rest)) ++ after) × Tail L d after
  back_item d bs r =
      let (f, cs, v, w, is, term) = r in
      let (t, end, lt, at, tail) = term in
      let (rest, after, lr, so, out) = tail in
      let all = is ∙ ap (λ x. f ++ 61 ∷ 62 ∷ x) (at ∙ ap (λ x. written t ++ x) so) ∙ split-item f (written t) (more rest) after in
      (f, t, rest, after, v, w, lt, lr, all, out)

  pub back_closing : (d b : ℕ) (bs : List ℕ) (q : State) → closing d b ≡ Some q → Rest L q bs → Tail L d (b ∷ bs)
  unfolding written LawfulTree
  back_closing zero b bs q e r = absurd (none-some q e)
  back_closing (suc d) b bs q e r =
      elim (by_cond (eqb b 44) (Some (state comma (suc d))) _ q e) [
        | inl h ↦
            let (f, t, rest, after, v, w, lt, lr, at, out) = back_item d bs (is_at (state comma (suc d)) bs q h.1 r) in
            (item f t rest, after, (v, w, lt, lr), first_is b 44 _ _ h.0 at, out)
        | inr m ↦
            elim (by_cond (eqb b 41) (Some (state closed d)) None q m.1) [
              | inl h ↦ (none, bs, tt, first_is b 41 bs bs h.0 refl, is_at (state closed d) bs q h.1 r)
              | inr h ↦ absurd (none-some q h.1)
            ]
      ]

  pub term_of_text : (d : ℕ) (k cs : List ℕ) → is_text k ≡ true → AfterText L d cs → BeforeTerm L d (k ++ cs)
  unfolding written LawfulTree
  term_of_text d k cs v r =
      let (items, after, l, at, tail) = r in
      (described None k items, after, (tt, v, l), ap (λ x. k ++ x) at ∙ sym (append_assoc k (listing items) after), tail)

  pub term_of_name : (d : ℕ) (n cs : List ℕ) → is_variable n ≡ true → L.word (length n) ≡ true → AfterName L d cs → BeforeTerm L d (n ++ cs)
  unfolding written LawfulTree
  term_of_name d n cs v w (inl tail) = (bare n, cs, (v, w), refl, tail)
  term_of_name d n cs v w (inr r) =
      let (ds, is, text) = r in
      let (k, es, vk, at, list) = text in
      let (items, after, l, so, tail) = list in (
        described (Some n) k items,
        after,
        ((v, w), vk, l),
        ap (λ x. n ++ x) (is ∙ ap (λ x. 58 ∷ x) (at ∙ ap (λ x. k ++ x) so)) ∙ split-named n k (listing items) after,
        tail,
      )

  pub one_more : (n m : ℕ) → L.word (suc n + m) ≡ true → L.word (n + suc m) ≡ true
  one_more n m h = let same : n + suc m ≡ suc n + m = omega arith in ap L.word same ∙ h

  pub one_first : (m : ℕ) → L.word (1 + m) ≡ true → L.word (suc m) ≡ true
  one_first m h = let same : suc m ≡ 1 + m = omega arith in ap L.word same ∙ h

  pub no_more : (n : ℕ) → L.word n ≡ true → L.word (n + 0) ≡ true
  no_more n h = let same : n + 0 ≡ n = omega arith in ap L.word same ∙ h
