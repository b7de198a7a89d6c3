-- What a tree says without a wrong word keeps the test on statements.
use Rattle.std.proofs.Common.{◌≡◌, ℕ, suc, ◌+◌, ◌<◌, ◌≤◌, true, false, not, ◌||◌, List, [], ◌∷◌, length, Some, None, sym, refl, ap, ◌∙◌, subst, inl, inr, arith}
use Rattle.std.proofs.lemmas.Bool.{and_from, or_parts, cases_Bool, eq-eqb, le-leb, lt-ltb, not-false, not_from_false, both_ways}
use Rattle.declarations.specs.Names.{listed}
use Rattle.declarations.specs.Declarations.{among}
use Rattle.grammar.specs.declared.statement.Statement.TheVariants.{Kind, Feature}
use Rattle.grammar.specs.Trees.{Tree, Items, bare, described, none, item, label, written}
use Rattle.grammar.specs.Told.{Told, nothing, index, subject, variable, introduce, mark, say, tell, tell_items, told}
use Rattle.grammar.specs.Lawful.{Open, root, path_to, has, may_come, after, lawful, statements}
use Rattle.grammar.proofs.Indexed.{listed-first, listed-behind, index_old, index_same}
use Rattle.grammar.proofs.Saying.{with_tree, introduce-names, introduce-said, tree_cases, mark-right, introduce-right, tell-right, items_right}
use Rattle.grammar.proofs.Variables.{one_name}
use Rattle.grammar.proofs.Opens.{Stands, stands-none, stands-say, among-to, innermost-among, has-none, has_other, has_cases}
use Rattle.grammar.proofs.Following.{Well, Fresh, next, below, next_well, next_among, next_path, next_fresh, next_count}

-- what telling leaves, from o on: paths to variables below a, and features of those below b
pub record Kept (n a b : ℕ) (o : Open) (t : Told) : Type 0 where
  pub now : Open
  pub stands : Stands n t.said now
  pub counted : now.count ≡ length t.names
  pub well : Well now
  pub path : (z : ℕ) → z < a → path_to z now.path ≡ path_to z o.path
  pub features : (z g : ℕ) → z < b → has z g now.features ≡ has z g o.features

-- the features of x that are told are those before
abbrev Before : List (List ℕ) → ℕ → List (List ℕ) → Open → Type 0
Before F x before o = (g : List ℕ) → listed g F ≡ true → has x (index g F) o.features ≡ true → listed g before ≡ true

same-among : (x : ℕ) (ps qs : List ℕ) → path_to x ps ≡ path_to x qs → among x qs ≡ true → among x ps ≡ true
same-among x ps qs e h = sym (among-to x ps) ∙ ap (among x) e ∙ among-to x qs ∙ h

-- a feature that is right may come
may_feature : (F : List (List ℕ)) (f : List ℕ) (x y : ℕ) (before : List (List ℕ)) (o : Open) → among x o.path ≡ true → Before F x before o →
    listed f F ≡ true → listed f before ≡ false → y ≤ o.count → may_come {K = List ℕ} (length F) (Feature x (index f F) y) o ≡ true
may_feature F f x y before o on said l new le =
    and_from _ _ on (and_from _ _ unsaid (and_from _ _ (le-leb y o.count le) (lt-ltb (index f F) (length F) (index_old f F l))))
  where
    unsaid : not (has x (index f F) o.features) ≡ true
    unsaid =
        elim (cases_Bool (has x (index f F) o.features)) [
          | inl h ↦ absurd (both_ways _ new (said f l h))
          | inr h ↦ not_from_false _ h
        ]

-- and is told then
before_more : (F : List (List ℕ)) (f : List ℕ) (x : ℕ) (before : List (List ℕ)) (o now : Open) → Before F x before o → listed f F ≡ true →
    ((g : ℕ) → has x g now.features ≡ has x g ((x, index f F) ∷ o.features)) → Before F x (f ∷ before) now
before_more F f x before o now said l same g m h =
    elim (has_cases x (index g F) x (index f F) o.features (sym (same (index g F)) ∙ h)) [
      | inl e ↦ listed-first g f before (index_same g f F m l e.1)
      | inr r ↦ listed-behind g f before (said g m r)
    ]

variable-within : (u : Tree) (t : Told) → variable u t ≤ length t.names
variable-within u t = elim (tree_cases u t).cases [ inl h ↦ omega (arith, h.0) | inr h ↦ omega (arith, h.0) ]

same-variable : (u : Tree) (s t : Told) → s.names ≡ t.names → variable u s ≡ variable u t
same-variable (bare n) s t e = ap (index n) e
same-variable (described (Some n) k items) s t e = ap (index n) e
same-variable (described None k items) s t e = ap length e

-- the term of an item, and then the other items
kept_more : (n x i y : ℕ) (o : Open) (v t : Told) (w : Well o) (on : among x o.path ≡ true) (k : Kept n (suc x) (suc x) (next o x i y w on) v) →
    Kept n (suc x) x k.now t → Kept n (suc x) x o t
kept_more n x i y o v t w on k m =
    record {
      now = m.now;
      stands = m.stands;
      counted = m.counted;
      well = m.well;
      path = λ z l. m.path z l ∙ k.path z l ∙ next_path o x i y w on z (omega arith);
      features = λ z g l. m.features z g l ∙ k.features z g (omega arith) ∙ has_other z g x i o.features (λ e. omega arith);
    }

kept_under : (n a y : ℕ) (o : Open) (k : List ℕ) (t : Told) → a ≤ y → Kept n (suc y) y (after (Kind y k) o) t → Kept n a a o t
kept_under n a y o k t l m =
    record {
      now = m.now;
      stands = m.stands;
      counted = m.counted;
      well = m.well;
      path = λ z h. m.path z (omega arith);
      features = λ z g h. m.features z g (omega arith);
    }

mutual
  unfolding tell

  keep_tree : (F : List (List ℕ)) (u : Tree) (p a : ℕ) (t : Told) (o : Open) → Stands (length F) t.said o →
      o.count ≡ length (with_tree u t.names) →
      Well o → (variable u t ≡ length t.names → (a ≤ variable u t) × Fresh (variable u t) o) → (tell F u p t).wrong ≡ None →
      Kept (length F) a a o (tell F u p t)
  keep_tree F (bare n) p a t o st ct w fr right =
      record { now = o; stands = st; counted = ct; well = w; path = λ z l. refl; features = λ z g l. refl }
  keep_tree F (described d k items) p a t o st ct w fr right =
      let q = p + length (label d) in
      let y = subject d t in
      let s = say (Kind y k) q (introduce d p t) in
      let r = introduce-right d p t (items_right F items y [] (q + length k) s right) in
      let f = fr r.1 in
      let st1 : Stands (length F) (introduce d p t).said o = rw (introduce-said d p t) st in
      let st2 = stands-say (length F) (introduce d p t).said o (Kind y k) q st1 (and_from _ _ f.1.fresh f.1.inner) in
      kept_under (length F) a y o k _ f.0
      (keep_items F items y [] (q + length k) s (after (Kind y k) o) st2 (ct ∙ ap length (sym (introduce-names d p t)))
      (record { falls = w.falls; known = w.known }) (innermost-among y o.path f.1.inner) (λ g m h. absurd (f.1.unsaid (index g F) h)) right)

  keep_items : (F : List (List ℕ)) (items : Items) (x : ℕ) (before : List (List ℕ)) (p : ℕ) (t : Told) (o : Open) → Stands (length F) t.said o →
      o.count ≡ length t.names → Well o → among x o.path ≡ true → Before F x before o → (tell_items F items x before p t).wrong ≡ None →
      Kept (length F) (suc x) x o (tell_items F items x before p t)
  keep_items F none x before p t o st ct w on said right =
      record { now = o; stands = st; counted = ct; well = w; path = λ z l. refl; features = λ z g l. refl }
  keep_items F (item f u rest) x before p t o st ct w on said right =
      let q = p + 1 + length f + 2 in
      let i = index f F in
      let y = variable u t in
      let b = not (listed f F) || listed f before in
      let s = say (Feature x i y) (p + 1) (mark b (p + 1) t) in
      let v = tell F u q s in
      let right-v = items_right F rest x (f ∷ before) (q + length (written u)) v right in
      let right-b = or_parts (not (listed f F)) (listed f before) (mark-right b (p + 1) t (tell-right F u q s right-v)).1 in
      let here : listed f F ≡ true = not-false _ right-b.0 in
      let within : y ≤ o.count = omega (arith, variable-within u t) in
      let st1 = stands-say (length F) t.said o (Feature x i y) (p + 1) st (may_feature F f x y before o on said here right-b.1 within) in
      let o1 = next o x i y w on in
      let k = keep_tree F u q (suc x) s o1 st1 (next_count o x i y w on t.names (with_tree u t.names) ct (tree_cases u t)) (next_well o x i y w on)
      (λ e. let same : variable u s ≡ y = same-variable u s t refl in
      subst (λ z. (suc x ≤ z) × Fresh z o1) (sym same) (omega (arith, below o x i y w on), next_fresh o x i y w on (sym same ∙ e ∙ sym ct))) right-v in
      let m = keep_items F rest x (f ∷ before) (q + length (written u)) v k.now k.stands k.counted k.well
      (same-among x k.now.path o1.path (k.path x (omega arith)) (next_among o x i y w on))
      (before_more F f x before o k.now said here (λ g. k.features x g (omega arith))) right in
      kept_more (length F) x i y o v (tell_items F rest x (f ∷ before) (q + length (written u)) v) w on k m

root-fresh : (y : ℕ) → y ≡ 0 → Fresh y root
root-fresh y e = record { fresh = refl; inner = eq-eqb y 0 e; unsaid = λ g h. both_ways _ (has-none y g) h }

-- what a tree says, from the root on
pub told-kept : (F : List (List ℕ)) (t : Tree) → (told F t).wrong ≡ None → Kept (length F) 0 0 root (told F t)
told-kept F t right =
    keep_tree F t 0 0 nothing root (stands-none (List ℕ) (length F)) (sym (one_name t))
    (record { falls = (omega arith, tt); known = λ y g h. absurd (both_ways _ (has-none y g) h) }) (λ e. (omega arith, root-fresh (variable t nothing) e)) right

pub told-lawful : (F : List (List ℕ)) (t : Tree) → (told F t).wrong ≡ None → lawful (length F) (statements (told F t).said) ≡ true
told-lawful F t right = (told-kept F t right).stands.lawful
