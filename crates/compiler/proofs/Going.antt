-- Going over the statements of a term one by one: what is done and what is left make up the whole.
use Rattle.std.proofs.Common.{◌≡◌, ℕ, ◌+◌, ◌<◌, ◌≤◌, List, [], ◌∷◌, ◌++◌, length, get_or, drop, append_assoc, append-nil, sym, refl, ap, ◌∙◌}
use Rattle.std.proofs.lemmas.List.{drop_all}
use Rattle.grammar.specs.declared.statement.Statement.{Statement}
use Rattle.grammar.specs.declared.statement.Statement.TheVariants.{Kind, Feature}
use Rattle.grammar.specs.declared.statement.Said.{Said}
use Rattle.grammar.specs.Lawful.{statements}
use Rattle.instructions.specs.Codes.{kinds}
use Rattle.compiler.proofs.Onward.{left_more}

-- one item is moved from what is left to what is done
pub moved : {X : Type 0} (xs ys whole : List X) (x : X) → xs ++ x ∷ ys ≡ whole → (xs ++ x ∷ []) ++ ys ≡ whole
moved xs ys whole x e = append_assoc xs (x ∷ []) ys ∙ e

module _ {K : Type 0} where
  kinds_kind : (x : ℕ) (k : K) (ss : List (Statement K)) → kinds (Kind x k ∷ ss) ≡ k ∷ kinds ss
  unfolding kinds
  kinds_kind x k ss = refl

  kinds_feature : (x f y : ℕ) (ss : List (Statement K)) → kinds (Feature x f y ∷ ss) ≡ kinds ss
  unfolding kinds
  kinds_feature x f y ss = refl

  module _ (said : List (Said K)) (i : ℕ) (u : Said K) (l : i < length said) (here : u ≡ get_or said i u) where
    next_said : statements (drop i said) ≡ u.statement ∷ statements (drop (i + 1) said)
    next_said = ap statements (left_more said u i l here)

    pub statements_more : (done : List (Statement K)) → done ++ statements (drop i said) ≡ statements said →
        (done ++ u.statement ∷ []) ++ statements (drop (i + 1) said) ≡ statements said
    statements_more done e = moved done _ _ _ (sym (ap (λ ss. done ++ ss) next_said) ∙ e)

    -- with one kind more, or none
    pub kinds_more_kind : (done : List K) (x : ℕ) (k : K) → u.statement ≡ Kind x k →
        done ++ kinds (statements (drop i said)) ≡ kinds (statements said) →
        (done ++ k ∷ []) ++ kinds (statements (drop (i + 1) said)) ≡ kinds (statements said)
    kinds_more_kind done x k s e =
        let rest = statements (drop (i + 1) said) in
        let now = ap kinds (next_said ∙ ap (λ t. t ∷ rest) s) ∙ kinds_kind x k rest in
        moved done (kinds rest) _ k (sym (ap (λ ks. done ++ ks) now) ∙ e)

    pub kinds_more_feature : (done : List K) (x f y : ℕ) → u.statement ≡ Feature x f y →
        done ++ kinds (statements (drop i said)) ≡ kinds (statements said) →
        done ++ kinds (statements (drop (i + 1) said)) ≡ kinds (statements said)
    kinds_more_feature done x f y s e =
        let rest = statements (drop (i + 1) said) in
        let now = ap kinds (next_said ∙ ap (λ t. t ∷ rest) s) ∙ kinds_feature x f y rest in
        sym (ap (λ ks. done ++ ks) now) ∙ e

  -- at the end nothing is left
  pub kinds_done : (said : List (Said K)) (i : ℕ) (done : List K) → length said ≤ i →
      done ++ kinds (statements (drop i said)) ≡ kinds (statements said) → done ≡ kinds (statements said)
  unfolding kinds
  kinds_done said i done l e =
      let none : kinds (statements (drop i said)) ≡ [] = ap (λ us. kinds (statements us)) (drop_all i said l) in
      sym (append-nil done) ∙ sym (ap (λ ks. done ++ ks) none) ∙ e
