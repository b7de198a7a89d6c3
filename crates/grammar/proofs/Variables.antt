-- The statements of a tree have as many variables as the tree has names.
use Rattle.std.proofs.Common.{◌≡◌, ℕ, suc, ◌+◌, not, ◌||◌, eqb, List, [], ◌∷◌, ◌++◌, length, get_or, Some, None, sym, refl, ap, ◌∙◌, inl, inr, arith}
use Rattle.std.proofs.lemmas.List.{length_push, map_push}
use Rattle.std.proofs.lemmas.Bool.{cond-true, cond-false, eq-eqb, ne_eqb}
use Rattle.declarations.specs.Names.{listed}
use Rattle.grammar.specs.declared.statement.Statement.TheVariants.{Kind, Feature}
use Rattle.grammar.specs.declared.statement.Said.{Said}
use Rattle.grammar.specs.Trees.{Tree, Items, bare, described, none, item, label, written}
use Rattle.grammar.specs.Told.{Told, nothing, index, subject, variable, introduce, mark, say, tell, tell_items, told}
use Rattle.grammar.specs.Lawful.{depths, statements}
use Rattle.grammar.proofs.Indexed.{listed-none}
use Rattle.grammar.proofs.Saying.{with_tree, NewOrOld, introduce-names, introduce-said, tree_cases}
use Rattle.grammar.proofs.Depths.{deeper, depths-none, depths_snoc_kind, depths_snoc_feature}

-- how many variables statements have
abbrev met : List (Said (List ℕ)) → ℕ
met said = length (depths (statements said))

met_kind : (said : List (Said (List ℕ))) (x : ℕ) (k : List ℕ) (p : ℕ) → met (said ++ record { statement = Kind x k; place = p } ∷ []) ≡ met said
met_kind said x k p =
    ap (λ ss. length (depths ss)) (map_push (λ (s : Said (List ℕ)). s.statement) said (record { statement = Kind x k; place = p }))
    ∙ ap length (depths_snoc_kind (statements said) x k)

deeper_met : (ds : List ℕ) (x y : ℕ) (ns ms : List (List ℕ)) → length ds ≡ length ns → NewOrOld y ns ms → length (deeper ds x y) ≡ length ms
deeper_met ds x y ns ms e c =
    elim c.cases [
      | inl h ↦
          let n = cond-true (eqb y (length ds)) (ds ++ suc (get_or ds x 0) ∷ []) ds (eq-eqb y (length ds) (h.0 ∙ sym e)) in
          ap length n ∙ omega (arith, length_push ds (suc (get_or ds x 0)), h.1)
      | inr h ↦
          let n = cond-false (eqb y (length ds)) (ds ++ suc (get_or ds x 0) ∷ []) ds (ne_eqb y (length ds) (λ s. omega (arith, h.0))) in
          ap length n ∙ e ∙ ap length (sym h.1)
    ]

met_feature : (said : List (Said (List ℕ))) (x f y p : ℕ) (ns ms : List (List ℕ)) → met said ≡ length ns → NewOrOld y ns ms →
    met (said ++ record { statement = Feature x f y; place = p } ∷ []) ≡ length ms
met_feature said x f y p ns ms e c =
    ap (λ ss. length (depths ss)) (map_push (λ (s : Said (List ℕ)). s.statement) said (record { statement = Feature x f y; place = p }))
    ∙ ap length (depths_snoc_feature (statements said) x f y) ∙ deeper_met (depths (statements said)) x y ns ms e c

mutual
  unfolding tell

  tree_met : (F : List (List ℕ)) (u : Tree) (p : ℕ) (t : Told) → met t.said ≡ length (with_tree u t.names) →
      met (tell F u p t).said ≡ length (tell F u p t).names
  tree_met F (bare n) p t h = h
  tree_met F (described o k items) p t h =
      let q = p + length (label o) in
      let s = say (Kind (subject o t) k) q (introduce o p t) in
      let e : met s.said ≡ length s.names =
      met_kind (introduce o p t).said (subject o t) k q ∙ ap met (introduce-said o p t) ∙ h ∙ ap length (sym (introduce-names o p t)) in
      items_met F items (subject o t) [] (q + length k) s e

  items_met : (F : List (List ℕ)) (items : Items) (x : ℕ) (before : List (List ℕ)) (p : ℕ) (t : Told) → met t.said ≡ length t.names →
      met (tell_items F items x before p t).said ≡ length (tell_items F items x before p t).names
  items_met F none x before p t h = h
  items_met F (item f u rest) x before p t h =
      let q = p + 1 + length f + 2 in
      let y = variable u t in
      let s = say (Feature x (index f F) y) (p + 1) (mark (not (listed f F) || listed f before) (p + 1) t) in
      let e = met_feature t.said x (index f F) y (p + 1) t.names (with_tree u t.names) h (tree_cases u t) in
      items_met F rest x (f ∷ before) (q + length (written u)) (tell F u q s) (tree_met F u q s e)

pub one_name : (u : Tree) → length (with_tree u []) ≡ 1
one_name (bare n) = ap length (cond-false _ [] (n ∷ []) (listed-none n))
one_name (described (Some n) k items) = ap length (cond-false _ [] (n ∷ []) (listed-none n))
one_name (described None k items) = refl

pub told-variables : (F : List (List ℕ)) (t : Tree) → length (depths (statements (told F t).said)) ≡ length (told F t).names
told-variables F t = tree_met F t 0 nothing (ap length (depths-none (List ℕ) (0 ∷ [])) ∙ sym (one_name t))
