-- How a term meets its variable, and how telling goes on.
use Rattle.std.proofs.Common.{◌≡◌, ℕ, ◌+◌, ◌<◌, Bool, true, false, cond, not, ◌||◌, ◌⊎◌, List, [], ◌∷◌, ◌++◌, length, Some, None, Option, refl, ap, ◌∙◌, inl, inr, arith}
use Rattle.std.proofs.lemmas.List.{length_push}
use Rattle.std.proofs.lemmas.Bool.{cases_Bool, cond-true, cond-false}
use Rattle.declarations.specs.Names.{listed}
use Rattle.grammar.specs.declared.statement.Statement.TheVariants.{Kind, Feature}
use Rattle.grammar.specs.Trees.{Tree, Items, bare, described, none, item, label, written}
use Rattle.grammar.specs.Told.{Told, index, subject, variable, meet, introduce, mark, first, say, tell, tell_items}
use Rattle.grammar.proofs.Indexed.{index_new, index_old}

-- the names after a name is met, or a variable without one
abbrev pub with_name : List ℕ → List (List ℕ) → List (List ℕ)
with_name n ns = cond (listed n ns) ns (ns ++ n ∷ [])

abbrev pub with_label : Option (List ℕ) → List (List ℕ) → List (List ℕ)
with_label (Some n) ns = with_name n ns
with_label None ns = ns ++ [] ∷ []

-- the names after the variable of a term is met
abbrev pub with_tree : Tree → List (List ℕ) → List (List ℕ)
with_tree (bare n) ns = with_name n ns
with_tree (described o k items) ns = with_label o ns

pub introduce-names : (o : Option (List ℕ)) (p : ℕ) (t : Told) → (introduce o p t).names ≡ with_label o t.names
introduce-names (Some n) p t = refl
introduce-names None p t = refl

pub introduce-said : (o : Option (List ℕ)) (p : ℕ) (t : Told) → (introduce o p t).said ≡ t.said
introduce-said (Some n) p t = refl
introduce-said None p t = refl

-- a variable is the next number and met now, or was met before
pub record NewOrOld (y : ℕ) (ns met : List (List ℕ)) : Type 0 where
  pub cases : ((y ≡ length ns) × (length met ≡ length ns + 1)) ⊎ ((y < length ns) × (met ≡ ns))

pub name_cases : (n : List ℕ) (ns : List (List ℕ)) → NewOrOld (index n ns) ns (with_name n ns)
name_cases n ns =
    elim (cases_Bool (listed n ns)) [
      | inl t ↦ record { cases = inr (index_old n ns t, cond-true _ ns (ns ++ n ∷ []) t) }
      | inr f ↦ record { cases = inl (index_new n ns f, ap length (cond-false _ ns (ns ++ n ∷ []) f) ∙ length_push ns n) }
    ]

pub label_cases : (o : Option (List ℕ)) (t : Told) → NewOrOld (subject o t) t.names (with_label o t.names)
label_cases (Some n) t = name_cases n t.names
label_cases None t = record { cases = inl (refl, length_push t.names []) }

pub tree_cases : (u : Tree) (t : Told) → NewOrOld (variable u t) t.names (with_tree u t.names)
tree_cases (bare n) t = name_cases n t.names
tree_cases (described o k items) t = label_cases o t

-- the leftmost wrong word stays
pub first-none : (o q : Option ℕ) → first o q ≡ None → (o ≡ None) × (q ≡ None)
first-none (Some p) q h = let z : ◌≡◌ {A = ℕ} 0 1 = cc in absurd (omega arith)
first-none None q h = (refl, h)

pub mark-right : (b : Bool) (p : ℕ) (t : Told) → (mark b p t).wrong ≡ None → (t.wrong ≡ None) × (b ≡ false)
mark-right b p t h = let r = first-none t.wrong (cond b (Some p) None) h in (r.0, right b r.1)
  where
    right : (b : Bool) → cond b (Some p) None ≡ None → b ≡ false
    right true e = let z : ◌≡◌ {A = ℕ} 0 1 = cc in absurd (omega arith)
    right false e = refl

-- a description whose variable is right has a new one
pub introduce-right : (o : Option (List ℕ)) (p : ℕ) (t : Told) → (introduce o p t).wrong ≡ None → (t.wrong ≡ None) × (subject o t ≡ length t.names)
introduce-right (Some n) p t h = let r = mark-right (listed n t.names) p (meet n t) h in (r.0, index_new n t.names r.1)
introduce-right None p t h = (h, refl)

mutual
  unfolding tell

  pub tell-right : (F : List (List ℕ)) (u : Tree) (p : ℕ) (t : Told) → (tell F u p t).wrong ≡ None → t.wrong ≡ None
  tell-right F (bare n) p t h = h
  tell-right F (described o k items) p t h =
      let q = p + length (label o) in
      (introduce-right o p t (items_right F items (subject o t) [] (q + length k) (say (Kind (subject o t) k) q (introduce o p t)) h)).0

  pub items_right : (F : List (List ℕ)) (items : Items) (x : ℕ) (before : List (List ℕ)) (p : ℕ) (t : Told) →
      (tell_items F items x before p t).wrong ≡ None → t.wrong ≡ None
  items_right F none x before p t h = h
  items_right F (item f u rest) x before p t h =
      let q = p + 1 + length f + 2 in
      let b = not (listed f F) || listed f before in
      let s = say (Feature x (index f F) (variable u t)) (p + 1) (mark b (p + 1) t) in
      (mark-right b (p + 1) t (tell-right F u q s (items_right F rest x (f ∷ before) (q + length (written u)) (tell F u q s) h))).0
