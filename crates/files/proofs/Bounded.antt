-- The places that a line's tree tells lie in the line.
use Rattle.std.proofs.Common.{◌≡◌, ℕ, ◌+◌, ◌≤◌, Bool, true, false, cond, List, [], ◌∷◌, ◌++◌, length, Some, None, Option, refl, subst, arith}
use Rattle.std.specs.List.{AllByRecursion}
use Rattle.std.proofs.ByRecursion.{All-append}
use Rattle.std.proofs.lemmas.List.{length-append}
use Rattle.orders.specs.Texts.{Texts}
use Rattle.grammar.specs.declared.statement.Statement.{Statement}
use Rattle.grammar.specs.declared.statement.Statement.TheVariants.{Kind}
use Rattle.grammar.specs.Trees.{Tree, Items, bare, described, none, item, label, written, listing, more}
use Rattle.grammar.specs.Told.{Told, nothing, say, mark, introduce, subject, tell, tell_items, told, first}
use Rattle.grammar.specs.Lines.{Line, WrongKind}
use Rattle.grammar.proofs.Counting.{item-length}

abbrev pub AtMost : ℕ → Option ℕ → Type 0
AtMost b None = Unit {0}
AtMost b (Some p) = p ≤ b

pub record Bounded (b : ℕ) (t : Told) : Type 0 where
  pub wrong : AtMost b t.wrong
  pub said : AllByRecursion (λ s. s.place ≤ b) t.said

first_bounded : (b p : ℕ) (o : Option ℕ) (t : Bool) → p ≤ b → AtMost b o → AtMost b (first o (cond t (Some p) None))
first_bounded b p (Some q) t l h = h
first_bounded b p None true l h = l
first_bounded b p None false l h = tt

mark_bounded : (b : ℕ) (w : Bool) (p : ℕ) (t : Told) → p ≤ b → Bounded b t → Bounded b (mark w p t)
mark_bounded b w p t l h = record { wrong = first_bounded b p t.wrong w l h.wrong; said = h.said }

say_bounded : (b : ℕ) (s : Statement (List ℕ)) (p : ℕ) (t : Told) → p ≤ b → Bounded b t → Bounded b (say s p t)
say_bounded b s p t l h = record { wrong = h.wrong; said = All-append _ t.said _ h.said (l, tt) }

introduce_bounded : (b : ℕ) (o : Option (List ℕ)) (p : ℕ) (t : Told) → p ≤ b → Bounded b t → Bounded b (introduce o p t)
introduce_bounded b (Some n) p t l h = record { wrong = first_bounded b p t.wrong _ l h.wrong; said = h.said }
introduce_bounded b None p t l h = record { wrong = h.wrong; said = h.said }

mutual
  unfolding tell written

  tree_bounded : (F : List (List ℕ)) (u : Tree) (p : ℕ) (t : Told) (b : ℕ) → p + length (written u) ≤ b → Bounded b t → Bounded b (tell F u p t)
  tree_bounded F (bare n) p t b l h = record { wrong = h.wrong; said = h.said }
  tree_bounded F (described o k items) p t b l h =
      let q = p + length (label o) in
      let size = length-append (label o) (k ++ listing items) in
      let rest = length-append k (listing items) in
      list_bounded F items (subject o t) [] (q + length k) (say (Kind (subject o t) k) q (introduce o p t)) b (omega (arith, l, size, rest))
      (say_bounded b _ q (introduce o p t) (omega (arith, l, size)) (introduce_bounded b o p t (omega (arith, l)) h))

  list_bounded : (F : List (List ℕ)) (items : Items) (x : ℕ) (before : List (List ℕ)) (p : ℕ) (t : Told) (b : ℕ) → p + length (listing items) ≤ b → Bounded b t
      → Bounded b (tell_items F items x before p t)
  list_bounded F none x before p t b l h = h
  list_bounded F (item f u rest) x before p t b l h =
      let q = p + 1 + length f + 2 in
      let size = item-length f (written u) (more rest) in
      more_bounded F rest x (f ∷ before) (q + length (written u)) _ b (omega (arith, l, size))
      (tree_bounded F u q _ b (omega (arith, l, size))
      (say_bounded b _ (p + 1) _ (omega (arith, l)) (mark_bounded b _ (p + 1) t (omega (arith, l)) h)))

  more_bounded : (F : List (List ℕ)) (items : Items) (x : ℕ) (before : List (List ℕ)) (p : ℕ) (t : Told) (b : ℕ) → p + length (more items) ≤ b → Bounded b t
      → Bounded b (tell_items F items x before p t)
  more_bounded F none x before p t b l h = h
  more_bounded F (item f u rest) x before p t b l h =
      let q = p + 1 + length f + 2 in
      let size = item-length f (written u) (more rest) in
      more_bounded F rest x (f ∷ before) (q + length (written u)) _ b (omega (arith, l, size))
      (tree_bounded F u q _ b (omega (arith, l, size))
      (say_bounded b _ (p + 1) _ (omega (arith, l)) (mark_bounded b _ (p + 1) t (omega (arith, l)) h)))

pub told_bounded : (F : List (List ℕ)) (line : List ℕ) (l : Line line) → Bounded (length line) (told F l.tree)
told_bounded F line l =
    let size : length (written l.tree) ≡ length line = rw l.whole refl in
    tree_bounded F l.tree 0 nothing (length line) (omega (arith, size)) (record { wrong = tt; said = tt })

pub wrong_bounded : (b : ℕ) (t : Told) → Bounded b t → (p : ℕ) → t.wrong ≡ Some p → p ≤ b
wrong_bounded b t h p e = subst (AtMost b) e h.wrong

behind : {A : Type 0} (P : A → Type 0) (xs : List A) (x : A) (ys : List A) → AllByRecursion P (xs ++ x ∷ ys) → P x
behind P [] x ys h = h.0
behind P (y ∷ xs) x ys h = behind P xs x ys h.1

pub kind_bounded : (b : ℕ) (t : Told) → Bounded b t → {K : Type 0} (m : Texts K) (p : ℕ) → WrongKind m t.said p → p ≤ b
kind_bounded b t h m p w =
    behind (λ s. s.place ≤ b) w.before (record { statement = Kind w.subject w.text; place = p }) w.behind (subst (AllByRecursion (λ s. s.place ≤ b)) w.split h.said)
