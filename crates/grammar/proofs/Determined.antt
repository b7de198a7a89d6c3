-- A line has one answer: its tree, the reason and the place of its refusal, and its statements are fixed.
use Rattle.std.proofs.Common.{◌≡◌, ℕ, ◌<◌, ◌≤◌, List, length, Some, None, Ok, Err, Option, Result, sym, refl, ap, ◌∙◌, subst, inl, inr, arith}
use Rattle.orders.specs.Texts.{Texts}
use Rattle.refusals.specs.declared.Refusal.{Refusal}
use Rattle.refusals.proofs.Broken.{breaks-apart, breaks-same}
use Rattle.refusals.proofs.Known.{same_row, same_refusal}
use Rattle.grammar.specs.declared.statement.Said.{Said}
use Rattle.grammar.specs.Told.{told}
use Rattle.grammar.specs.Lines.{Grammar, Line, Reads, WrongKind, Accepts, Refuses, Answers}
use Rattle.grammar.proofs.Single.{one_tree}
use Rattle.grammar.proofs.SameKinds.{same_length}
use Rattle.grammar.specs.Only.{OnlyReads}
use Rattle.grammar.proofs.OnlyKinds.{read_not_wrong, same-wrong, one_reading}

some-none : (o : Option ℕ) (p : ℕ) → o ≡ Some p → o ≡ None → ⊥
some-none o p a b = let z : ◌≡◌ {A = ℕ} 0 1 = cc in omega arith

same_some : (o : Option ℕ) (p q : ℕ) → o ≡ Some p → o ≡ Some q → p ≡ q
same_some o p q a b = cc

module _ {K : Type 0} (m : Texts K) (features : List (List ℕ)) (room : ℕ) (line : List ℕ) where
  pub same-tree : (l k : Line line) → l.tree ≡ k.tree
  same-tree l k = one_tree l.tree k.tree l.lawful k.lawful (l.whole ∙ sym k.whole)

  in_grammar : Line line → Grammar line
  in_grammar l = (l.tree, l.lawful, l.whole)

  -- what is said of one tree of the line is said of the other
  wrong_of : (l k : Line line) → (told features l.tree).wrong ≡ (told features k.tree).wrong
  wrong_of l k = ap (λ t. (told features t).wrong) (same-tree l k)

  said_of : (l k : Line line) → (told features l.tree).said ≡ (told features k.tree).said
  said_of l k = ap (λ t. (told features t).said) (same-tree l k)

  reads_of : (l k : Line line) (us : List (Said K)) → Reads m (told features l.tree).said us → Reads m (told features k.tree).said us
  reads_of l k us h = subst (λ ss. Reads m ss us) (said_of l k) h

  word_not : (l k : Line line) (p : ℕ) → (told features l.tree).wrong ≡ Some p → (told features k.tree).wrong ≡ None → ⊥
  word_not l k p a b = some-none _ p a (wrong_of l k ∙ b)

  word_same : (l k : Line line) (p q : ℕ) → (told features l.tree).wrong ≡ Some p → (told features k.tree).wrong ≡ Some q → p ≡ q
  word_same l k p q a b = same_some _ p q a (wrong_of l k ∙ b)

  kind_not : (l k : Line line) (p : ℕ) (us : List (Said K)) → WrongKind m (told features l.tree).said p
      → Reads m (told features k.tree).said us → ⊥
  kind_not l k p us w h = read_not_wrong m (told features l.tree).said us p (reads_of k l us h) w

  kind_same : (l k : Line line) (p q : ℕ) → WrongKind m (told features l.tree).said p → WrongKind m (told features k.tree).said q → p ≡ q
  kind_same l k p q w v = same-wrong m _ p q w (subst (λ ss. WrongKind m ss q) (said_of k l) v)

  fits_not : (l k : Line line) (us vs : List (Said K)) → Reads m (told features l.tree).said us
      → Reads m (told features k.tree).said vs → room < length us → length vs ≤ room → ⊥
  fits_not l k us vs h g a b = omega (arith, same_length m _ us h, same_length m _ vs (reads_of k l vs g))

  pub refused_not_accepted : (e : Refusal) (us : List (Said K)) → Refuses m features room line e → Accepts m features room line us → ⊥
  refused_not_accepted e us (inl h) a = a.words.within h.0
  refused_not_accepted e us (inr (inl h)) a = breaks-apart Grammar line h.1 h.2 (in_grammar a.words)
  refused_not_accepted e us (inr (inr (inl h))) a = word_not h.0 a.words h.1 h.2 a.right
  refused_not_accepted e us (inr (inr (inr (inl h)))) a = kind_not h.0 a.words h.2 us h.3 a.said
  refused_not_accepted e us (inr (inr (inr (inr h)))) a = fits_not h.0 a.words h.2 us h.3 a.said h.4 a.fits

  pub same_refused : (e f : Refusal) → Refuses m features room line e → Refuses m features room line f → f ≡ e
  same_refused e f (inl h) (inl g) = same_refusal e f 1 0 0 h.1 g.1 refl
  same_refused e f (inl h) (inr (inl g)) = absurd (g.0 h.0)
  same_refused e f (inl h) (inr (inr (inl g))) = absurd (g.0.within h.0)
  same_refused e f (inl h) (inr (inr (inr (inl g)))) = absurd (g.0.within h.0)
  same_refused e f (inl h) (inr (inr (inr (inr g)))) = absurd (g.0.within h.0)
  same_refused e f (inr (inl h)) (inl g) = absurd (h.0 g.0)
  same_refused e f (inr (inl h)) (inr (inl g)) =
      same_refusal e f 2 h.1 g.1 h.3 g.3 (breaks-same Grammar line h.1 g.1 h.2 g.2)
  same_refused e f (inr (inl h)) (inr (inr (inl g))) = absurd (breaks-apart Grammar line h.1 h.2 (in_grammar g.0))
  same_refused e f (inr (inl h)) (inr (inr (inr (inl g)))) = absurd (breaks-apart Grammar line h.1 h.2 (in_grammar g.0))
  same_refused e f (inr (inl h)) (inr (inr (inr (inr g)))) = absurd (breaks-apart Grammar line h.1 h.2 (in_grammar g.0))
  same_refused e f (inr (inr (inl h))) (inl g) = absurd (h.0.within g.0)
  same_refused e f (inr (inr (inl h))) (inr (inl g)) = absurd (breaks-apart Grammar line g.1 g.2 (in_grammar h.0))
  same_refused e f (inr (inr (inl h))) (inr (inr (inl g))) =
      same_refusal e f 3 h.1 g.1 h.3 g.3 (word_same h.0 g.0 h.1 g.1 h.2 g.2)
  same_refused e f (inr (inr (inl h))) (inr (inr (inr (inl g)))) = absurd (word_not h.0 g.0 h.1 h.2 g.1)
  same_refused e f (inr (inr (inl h))) (inr (inr (inr (inr g)))) = absurd (word_not h.0 g.0 h.1 h.2 g.1)
  same_refused e f (inr (inr (inr (inl h)))) (inl g) = absurd (h.0.within g.0)
  same_refused e f (inr (inr (inr (inl h)))) (inr (inl g)) = absurd (breaks-apart Grammar line g.1 g.2 (in_grammar h.0))
  same_refused e f (inr (inr (inr (inl h)))) (inr (inr (inl g))) = absurd (word_not g.0 h.0 g.1 g.2 h.1)
  same_refused e f (inr (inr (inr (inl h)))) (inr (inr (inr (inl g)))) =
      same_refusal e f 4 h.2 g.2 h.4 g.4 (kind_same h.0 g.0 h.2 g.2 h.3 g.3)
  same_refused e f (inr (inr (inr (inl h)))) (inr (inr (inr (inr g)))) = absurd (kind_not h.0 g.0 h.2 g.2 h.3 g.3)
  same_refused e f (inr (inr (inr (inr h)))) (inl g) = absurd (h.0.within g.0)
  same_refused e f (inr (inr (inr (inr h)))) (inr (inl g)) = absurd (breaks-apart Grammar line g.1 g.2 (in_grammar h.0))
  same_refused e f (inr (inr (inr (inr h)))) (inr (inr (inl g))) = absurd (word_not g.0 h.0 g.1 g.2 h.1)
  same_refused e f (inr (inr (inr (inr h)))) (inr (inr (inr (inl g)))) = absurd (kind_not g.0 h.0 g.2 h.2 g.3 h.3)
  same_refused e f (inr (inr (inr (inr h)))) (inr (inr (inr (inr g)))) = same_row e f (g.5 ∙ sym h.5)

  -- whatever refuses or reads the line is the one refusal, or the one reading where each of its kind texts is one kind's alone
  pub only_refusal : (e : Refusal) → Refuses m features room line e → (s : Result (Unit {0}) Refusal) (vs : List (Said K))
      → Answers m features room line vs s → s ≡ Err e
  only_refusal e r (Ok x) vs a = absurd (refused_not_accepted e vs r a)
  only_refusal e r (Err f) vs s = ap Err (same_refused e f r s)

  pub only_answer : (us : List (Said K)) (a : Accepts m features room line us) → OnlyReads m (told features a.words.tree).said us
      → (s : Result (Unit {0}) Refusal) (vs : List (Said K)) → Answers m features room line vs s → (s ≡ Ok tt) × (vs ≡ us)
  only_answer us a o (Ok x) vs b = (refl, one_reading m _ us vs o (reads_of b.words a.words vs b.said))
  only_answer us a o (Err e) vs r = absurd (refused_not_accepted e us r a)
