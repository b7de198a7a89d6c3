-- A line within 1,000 bytes has at most 200 variables and 399 statements.
use Rattle.std.proofs.Common.{◌≡◌, ℕ, suc, ◌+◌, ◌*◌, ◌<◌, ◌≤◌, Bool, true, false, cond, not, ◌||◌, List, [], ◌∷◌, ◌++◌, length, Some, None, Option, refl, arith, length-append}
use Rattle.std.proofs.lemmas.List.{length_push}
use Rattle.std.proofs.lemmas.Bool.{both_ways}
use Rattle.declarations.specs.Names.{listed}
use Rattle.grammar.specs.declared.statement.Statement.TheVariants.{Kind, Feature}
use Rattle.grammar.specs.declared.statement.Said.{Said}
use Rattle.grammar.specs.Words.{is_word}
use Rattle.grammar.specs.Trees.{Tree, Items, bare, described, none, item, label, written, listing, more, no_limits, LawfulTree, LawfulList, LawfulItems}
use Rattle.grammar.specs.Told.{Told, index, subject, variable, meet, introduce, mark, say, tell, tell_items, told, nothing}
use Rattle.grammar.proofs.Saying.{introduce-said}

-- how many terms a tree has
unfoldable mutual
  pub terms : Tree → ℕ
  terms (bare n) = 1
  terms (described o k items) = suc (item_terms items)

  pub item_terms : Items → ℕ
  item_terms none = 0
  item_terms (item f u rest) = terms u + item_terms rest

word_some : (first other : ℕ → Bool) (w : List ℕ) → is_word first other w ≡ true → 0 < length w
word_some first other [] h = absurd (both_ways false refl h)
word_some first other (b ∷ bs) h = omega arith

pub item-length : (f w m : List ℕ) → length (f ++ 61 ∷ 62 ∷ (w ++ m)) ≡ length f + 2 + length w + length m
item-length f w m = omega (arith, length-append f (61 ∷ 62 ∷ (w ++ m)), length-append w m)

mutual
  unfolding terms written LawfulTree

  long-tree : (t : Tree) (d : ℕ) → LawfulTree no_limits d t → 5 * terms t ≤ length (written t) + 4
  long-tree (bare n) d h = omega (arith, word_some _ _ n h.0)
  long-tree (described o k items) d h =
      omega (arith, word_some _ _ k h.1, long_list items d h.2, length-append (label o) (k ++ listing items), length-append k (listing items))

  long_list : (items : Items) (d : ℕ) → LawfulList no_limits d items → 5 * item_terms items ≤ length (listing items)
  long_list none d h = omega arith
  long_list (item f u rest) d h =
      omega (arith, word_some _ _ f h.1, long-tree u (suc d) h.3, long-more rest (suc d) h.4, item-length f (written u) (more rest))

  long-more : (items : Items) (d : ℕ) → LawfulItems no_limits d items → 5 * item_terms items ≤ length (more items)
  long-more none d h = omega arith
  long-more (item f u rest) d h =
      omega (arith, word_some _ _ f h.0, long-tree u d h.2, long-more rest d h.3, item-length f (written u) (more rest))

meet_few : (n : List ℕ) (t : Told) → length (meet n t).names ≤ length t.names + 1
meet_few n t = step (listed n t.names)
  where
    step : (b : Bool) → length (cond b t.names (t.names ++ n ∷ [])) ≤ length t.names + 1
    step true = omega arith
    step false = omega (arith, length_push t.names n)

introduce_few : (o : Option (List ℕ)) (p : ℕ) (t : Told) → length (introduce o p t).names ≤ length t.names + 1
introduce_few (Some n) p t = meet_few n t
introduce_few None p t = omega (arith, length_push t.names [])

mutual
  unfolding terms tell

  few_names : (F : List (List ℕ)) (u : Tree) (p : ℕ) (t : Told) → length (tell F u p t).names ≤ length t.names + terms u
  few_names F (bare n) p t = meet_few n t
  few_names F (described o k items) p t =
      let q = p + length (label o) in
      let s = say (Kind (subject o t) k) q (introduce o p t) in
      omega (arith, item-names F items (subject o t) [] (q + length k) s, introduce_few o p t)

  item-names : (F : List (List ℕ)) (items : Items) (x : ℕ) (before : List (List ℕ)) (p : ℕ) (t : Told) →
      length (tell_items F items x before p t).names ≤ length t.names + item_terms items
  item-names F none x before p t = omega arith
  item-names F (item f u rest) x before p t =
      let q = p + 1 + length f + 2 in
      let s = say (Feature x (index f F) (variable u t)) (p + 1) (mark (not (listed f F) || listed f before) (p + 1) t) in
      omega (arith, item-names F rest x (f ∷ before) (q + length (written u)) (tell F u q s), few_names F u q s)

mutual
  unfolding terms tell

  few_statements : (F : List (List ℕ)) (u : Tree) (p : ℕ) (t : Told) → length (tell F u p t).said + 1 ≤ length t.said + 2 * terms u
  few_statements F (bare n) p t = omega arith
  few_statements F (described o k items) p t =
      let q = p + length (label o) in
      let a : Said (List ℕ) = record { statement = Kind (subject o t) k; place = q } in
      let s = say (Kind (subject o t) k) q (introduce o p t) in
      let e : length (introduce o p t).said ≡ length t.said = rw introduce-said in
      omega (arith, item-statements F items (subject o t) [] (q + length k) s, length_push (introduce o p t).said a, e)

  item-statements : (F : List (List ℕ)) (items : Items) (x : ℕ) (before : List (List ℕ)) (p : ℕ) (t : Told) →
      length (tell_items F items x before p t).said ≤ length t.said + 2 * item_terms items
  item-statements F none x before p t = omega arith
  item-statements F (item f u rest) x before p t =
      let q = p + 1 + length f + 2 in
      let a : Said (List ℕ) = record { statement = Feature x (index f F) (variable u t); place = p + 1 } in
      let s = say (Feature x (index f F) (variable u t)) (p + 1) (mark (not (listed f F) || listed f before) (p + 1) t) in
      omega (arith, item-statements F rest x (f ∷ before) (q + length (written u)) (tell F u q s), few_statements F u q s, length_push t.said a)

-- a line within 1,000 bytes
pub few_names_and_statements : (F : List (List ℕ)) (t : Tree) → LawfulTree no_limits 0 t → length (written t) ≤ 1000 →
    (length (told F t).names ≤ 200) × (length (told F t).said ≤ 399)
few_names_and_statements F t h l =
    let long = long-tree t 0 h in
    let names = few_names F t 0 nothing in
    let said = few_statements F t 0 nothing in
    (omega arith, omega arith)
