-- Statements are read one way: a wrong kind text has one place, and a text that one kind alone has is read as that kind.
use Rattle.std.proofs.Common.{◌≡◌, ℕ, List, [], ◌∷◌, ◌++◌, sym, refl, ap, ◌∙◌, subst, ap₂}
use Rattle.orders.specs.Texts.{Texts}
use Rattle.orders.specs.Whole.{NoKind}
use Rattle.grammar.specs.declared.statement.Statement.{Statement}
use Rattle.grammar.specs.declared.statement.Statement.TheVariants.{Kind, Feature}
use Rattle.grammar.specs.declared.statement.Said.{Said}
use Rattle.grammar.specs.Lines.{SameStatement, Reads, WrongKind}
use Rattle.grammar.specs.Only.{OnlyStatement, OnlyReads}

same_first : {A : Type 0} (a b : A) (r s : List A) → a ∷ r ≡ b ∷ s → (a ≡ b) × (r ≡ s)
same_first a b r s e = (cc, cc)

module _ {K : Type 0} (m : Texts K) where
  -- a text that no kind has is read as no statement
  wrong_statement : (x : ℕ) (t : List ℕ) (u : Statement K) → NoKind m t → SameStatement m (Kind x t) u → ⊥
  wrong_statement x t (Kind y k) w h = w k h.1
  wrong_statement x t (Feature y f z) w h = h

  wrong-said : (x : ℕ) (t : List ℕ) (p : ℕ) (s : Said (List ℕ)) (u : Said K) → record { statement = Kind x t; place = p } ≡ s
      → NoKind m t → SameStatement m s.statement u.statement → ⊥
  wrong-said x t p s u e w h = wrong_statement x t u.statement w (subst (λ z. SameStatement m z.statement u.statement) (sym e) h)

  wrong-within : (before : List (Said (List ℕ))) (x : ℕ) (t : List ℕ) (p : ℕ) (behind : List (Said (List ℕ))) (us : List (Said K))
      → NoKind m t → Reads m (before ++ record { statement = Kind x t; place = p } ∷ behind) us → ⊥
  wrong-within [] x t p behind [] w h = h
  wrong-within [] x t p behind (u ∷ us) w h = wrong_statement x t u.statement w h.0
  wrong-within (s ∷ before) x t p behind [] w h = h
  wrong-within (s ∷ before) x t p behind (u ∷ us) w h = wrong-within before x t p behind us w h.2

  -- statements that are all read have no wrong text
  pub read_not_wrong : (ss : List (Said (List ℕ))) (us : List (Said K)) (p : ℕ) → Reads m ss us → WrongKind m ss p → ⊥
  read_not_wrong ss us p h w =
      wrong-within w.before w.subject w.text p w.behind us w.wrong (subst (λ z. Reads m z us) w.split h)

  same-within : (xs ys : List (Said (List ℕ))) (us vs : List (Said K)) (x y : ℕ) (t s : List ℕ) (p q : ℕ) (ps qs : List (Said (List ℕ)))
      → Reads m xs us → Reads m ys vs → NoKind m t → NoKind m s
      → xs ++ record { statement = Kind x t; place = p } ∷ ps ≡ ys ++ record { statement = Kind y s; place = q } ∷ qs → p ≡ q
  same-within [] [] us vs x y t s p q ps qs h g w v e = ap (λ z. z.place) (same_first _ _ ps qs e).0
  same-within [] (b ∷ ys) us [] x y t s p q ps qs h g w v e = absurd g
  same-within [] (b ∷ ys) us (c ∷ vs) x y t s p q ps qs h g w v e = absurd (wrong-said x t p b c (same_first _ _ ps _ e).0 w g.0)
  same-within (a ∷ xs) [] [] vs x y t s p q ps qs h g w v e = absurd h
  same-within (a ∷ xs) [] (c ∷ us) vs x y t s p q ps qs h g w v e = absurd (wrong-said y s q a c (sym (same_first _ _ _ qs e).0) v h.0)
  same-within (a ∷ xs) (b ∷ ys) [] vs x y t s p q ps qs h g w v e = absurd h
  same-within (a ∷ xs) (b ∷ ys) (c ∷ us) [] x y t s p q ps qs h g w v e = absurd g
  same-within (a ∷ xs) (b ∷ ys) (c ∷ us) (d ∷ vs) x y t s p q ps qs h g w v e =
      same-within xs ys us vs x y t s p q ps qs h.2 g.2 w v (same_first a b _ _ e).1

  -- the leftmost wrong text has one place
  pub same-wrong : (ss : List (Said (List ℕ))) (p q : ℕ) → WrongKind m ss p → WrongKind m ss q → p ≡ q
  same-wrong ss p q w v =
      same-within w.before v.before w.kinds v.kinds w.subject v.subject w.text v.text p q w.behind v.behind
      w.read v.read w.wrong v.wrong (sym w.split ∙ v.split)

  only_statement : (s : Statement (List ℕ)) (u : Statement K) → OnlyStatement m s u → SameStatement m s u
  only_statement (Kind x t) (Kind y k) h = (h.0, h.1.0)
  only_statement (Kind x t) (Feature y f z) h = h
  only_statement (Feature x f z) (Kind y k) h = h
  only_statement (Feature x f z) (Feature y g w) h = h

  pub only_reads : (ss : List (Said (List ℕ))) (us : List (Said K)) → OnlyReads m ss us → Reads m ss us
  only_reads [] [] h = tt
  only_reads [] (u ∷ us) h = h
  only_reads (s ∷ ss) [] h = h
  only_reads (s ∷ ss) (u ∷ us) h = (only_statement s.statement u.statement h.0, h.1, only_reads ss us h.2)

  one_statement : (s : Statement (List ℕ)) (u v : Statement K) → OnlyStatement m s u → SameStatement m s v → v ≡ u
  one_statement (Kind x t) (Kind y k) (Kind z j) h g = ap₂ Kind (sym g.0 ∙ h.0) (h.1.1 j g.1)
  one_statement (Kind x t) (Kind y k) (Feature z f w) h g = absurd g
  one_statement (Kind x t) (Feature y f w) v h g = absurd h
  one_statement (Feature x f z) (Kind y k) v h g = absurd h
  one_statement (Feature x f z) (Feature y a w) (Kind i j) h g = absurd g
  one_statement (Feature x f z) (Feature y a w) (Feature i b j) h g = cc

  pub one_reading : (ss : List (Said (List ℕ))) (us vs : List (Said K)) → OnlyReads m ss us → Reads m ss vs → vs ≡ us
  one_reading [] [] [] h g = refl
  one_reading [] [] (v ∷ vs) h g = absurd g
  one_reading [] (u ∷ us) vs h g = absurd h
  one_reading (s ∷ ss) [] vs h g = absurd h
  one_reading (s ∷ ss) (u ∷ us) [] h g = absurd g
  one_reading (s ∷ ss) (u ∷ us) (v ∷ vs) h g =
      let a = one_statement s.statement u.statement v.statement h.0 g.0 in
      let b : v.place ≡ u.place = sym g.1 ∙ h.1 in
      let c = one_reading ss us vs h.2 g.2 in
      λ i. record { statement = a i; place = b i } ∷ c i

  -- more statements at the end
  pub only_append : (ss : List (Said (List ℕ))) (us : List (Said K)) (ts : List (Said (List ℕ))) (vs : List (Said K)) → OnlyReads m ss us
      → OnlyReads m ts vs → OnlyReads m (ss ++ ts) (us ++ vs)
  only_append [] [] ts vs h g = g
  only_append [] (u ∷ us) ts vs h g = absurd h
  only_append (s ∷ ss) [] ts vs h g = absurd h
  only_append (s ∷ ss) (u ∷ us) ts vs h g = (h.0, h.1, only_append ss us ts vs h.2 g)

  pub only_snoc : (ss : List (Said (List ℕ))) (us : List (Said K)) (s : Said (List ℕ)) (u : Said K) → OnlyReads m ss us
      → OnlyStatement m s.statement u.statement → s.place ≡ u.place → OnlyReads m (ss ++ s ∷ []) (us ++ u ∷ [])
  only_snoc ss us s u h a p = only_append ss us (s ∷ []) (u ∷ []) h (a, p, tt)
