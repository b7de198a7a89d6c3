-- Statements that are read with their kinds keep what the statements of the line keep.
use Rattle.std.proofs.Common.{◌≡◌, ℕ, List, [], ◌∷◌, ◌++◌, length, sym, refl, ◌∙◌, arith}
use Rattle.orders.specs.Texts.{Texts}
use Rattle.grammar.specs.declared.statement.Statement.{Statement}
use Rattle.grammar.specs.declared.statement.Statement.TheVariants.{Kind, Feature}
use Rattle.grammar.specs.declared.statement.Said.{Said}
use Rattle.grammar.specs.Lawful.{Open, root, may_come, after, lawful_from, lawful, depths_from, depths, statements}
use Rattle.grammar.specs.Lines.{SameStatement, Reads}
use Rattle.grammar.proofs.Depths.{depths-none, depths_kind, depths_feature}

module _ {K : Type 0} (m : Texts K) where
  same_may : (n : ℕ) (o : Open) (s : Statement (List ℕ)) (u : Statement K) → SameStatement m s u → may_come n u o ≡ may_come n s o
  same_may n o (Kind x t) (Kind y k) h = rw h.0
  same_may n o (Kind x t) (Feature y g w) h = absurd h
  same_may n o (Feature x f z) (Kind y k) h = absurd h
  same_may n o (Feature x f z) (Feature y g w) h = rw (h.0, h.1, h.2)

  same_after : (o : Open) (s : Statement (List ℕ)) (u : Statement K) → SameStatement m s u → after u o ≡ after s o
  same_after o (Kind x t) (Kind y k) h = refl
  same_after o (Kind x t) (Feature y g w) h = absurd h
  same_after o (Feature x f z) (Kind y k) h = absurd h
  same_after o (Feature x f z) (Feature y g w) h = rw (h.0, h.1, h.2)

  same_from : (ss : List (Said (List ℕ))) (us : List (Said K)) (n : ℕ) (o : Open) → Reads m ss us →
      lawful_from n o (statements us) ≡ lawful_from n o (statements ss)
  unfolding lawful_from
  same_from [] [] n o h = refl
  same_from [] (u ∷ us) n o h = absurd h
  same_from (s ∷ ss) [] n o h = absurd h
  same_from (s ∷ ss) (u ∷ us) n o h =
      let a = same_may n o s.statement u.statement h.0 in
      let b = same_after o s.statement u.statement h.0 in
      let c = same_from ss us n (after s.statement o) h.2 in
      cc

  pub same-lawful : (ss : List (Said (List ℕ))) (us : List (Said K)) (n : ℕ) → Reads m ss us → lawful n (statements us) ≡ lawful n (statements ss)
  same-lawful ss us n h = same_from ss us n root h

  depths-same : (ss : List (Said (List ℕ))) (us : List (Said K)) (ds : List ℕ) → Reads m ss us →
      depths_from ds (statements us) ≡ depths_from ds (statements ss)
  depths-same [] [] ds h = depths-none K ds ∙ sym (depths-none (List ℕ) ds)
  depths-same [] (u ∷ us) ds h = absurd h
  depths-same (s ∷ ss) [] ds h = absurd h
  depths-same (s ∷ ss) (u ∷ us) ds h = step s.statement u.statement h.0 (λ es. depths-same ss us es h.2)
    where
      step : (a : Statement (List ℕ)) (b : Statement K) → SameStatement m a b → ((es : List ℕ) →
          depths_from es (statements us) ≡ depths_from es (statements ss)) →
          depths_from ds (b ∷ statements us) ≡ depths_from ds (a ∷ statements ss)
      step (Kind x t) (Kind y k) g r = depths_kind ds y k (statements us) ∙ r ds ∙ sym (depths_kind ds x t (statements ss))
      step (Kind x t) (Feature y f w) g r = absurd g
      step (Feature x f z) (Kind y k) g r = absurd g
      step (Feature x f z) (Feature y e w) g r =
          depths_feature ds y e w (statements us) ∙ r _ ∙ rw (← g.0, ← g.2) (sym (depths_feature ds x f z (statements ss)))

  pub same_depths : (ss : List (Said (List ℕ))) (us : List (Said K)) → Reads m ss us → depths (statements us) ≡ depths (statements ss)
  same_depths ss us h = depths-same ss us (0 ∷ []) h

  pub same_length : (ss : List (Said (List ℕ))) (us : List (Said K)) → Reads m ss us → length us ≡ length ss
  same_length [] [] h = refl
  same_length [] (u ∷ us) h = absurd h
  same_length (s ∷ ss) [] h = absurd h
  same_length (s ∷ ss) (u ∷ us) h = omega (arith, same_length ss us h.2)

  -- more statements at the end
  pub reads_append : (ss : List (Said (List ℕ))) (us : List (Said K)) (ts : List (Said (List ℕ))) (vs : List (Said K)) → Reads m ss us →
      Reads m ts vs → Reads m (ss ++ ts) (us ++ vs)
  reads_append [] [] ts vs h g = g
  reads_append [] (u ∷ us) ts vs h g = absurd h
  reads_append (s ∷ ss) [] ts vs h g = absurd h
  reads_append (s ∷ ss) (u ∷ us) ts vs h g = (h.0, h.1, reads_append ss us ts vs h.2 g)

  pub reads_snoc : (ss : List (Said (List ℕ))) (us : List (Said K)) (s : Said (List ℕ)) (u : Said K) → Reads m ss us →
      SameStatement m s.statement u.statement → s.place ≡ u.place → Reads m (ss ++ s ∷ []) (us ++ u ∷ [])
  reads_snoc ss us s u h a p = reads_append ss us (s ∷ []) (u ∷ []) h (a, p, tt)
