-- Facts that a case makes true stay true where it only comes to say more.
use Rattle.std.proofs.Common.{◌≡◌, ℕ, ◌+◌, ◌<◌, ◌≤◌, List, [], ◌∷◌, Some, sym, ap, ◌∙◌, subst, arith}
use Rattle.std.specs.List.{AllByRecursion}
use Rattle.orders.specs.Meaning.{Meaning}
use Rattle.grammar.specs.declared.statement.Statement.{Statement}
use Rattle.grammar.specs.declared.statement.Statement.TheVariants.{Kind, Feature}
use Rattle.joining.specs.Heap.{Heap, end}
use Rattle.joining.specs.Good.{Good}
use Rattle.joining.specs.Law.{Extends}
use Rattle.joining.specs.Interpretation.{Structure}
use Rattle.performing.specs.Structures.{structure_of, Says}
use Rattle.performing.proofs.Onward.{still_says, Within}
use Rattle.osf.specs.Facts.{Fact, is_kind, leads, one, Holds, fact, facts_of}

-- a fact's variables are among the first n
abbrev pub Among : {K : Type 0} → ℕ → Fact K → Type 0
Among n (is_kind x k) = x < n
Among n (leads x f y) = (x < n) × (y < n)
Among n (one x y) = (x < n) × (y < n)

pub among_more : {K : Type 0} (n p : ℕ) → n ≤ p → (q : Fact K) → Among n q → Among p q
among_more n p l (is_kind x k) a = omega (arith, l, a)
among_more n p l (leads x f y) a = (omega (arith, l, a.0), omega (arith, l, a.1))
among_more n p l (one x y) a = (omega (arith, l, a.0), omega (arith, l, a.1))

pub among_fact : {K : Type 0} (b p : ℕ) (t : Statement K) → Within p t → Among (b + p) (fact b t)
among_fact b p (Kind x k) w = omega (arith, w)
among_fact b p (Feature x f y) w = (omega (arith, w.0), omega (arith, w.1))

pub all_among : {K : Type 0} (b p : ℕ) (ts : List (Statement K)) → AllByRecursion (Within p) ts → AllByRecursion (Among (b + p)) (facts_of b ts)
all_among b p [] w = tt
all_among b p (t ∷ ts) w = (among_fact b p t w.0, all_among b p ts w.1)

pub all_among_more : {K : Type 0} (n p : ℕ) → n ≤ p → (qs : List (Fact K)) → AllByRecursion (Among n) qs → AllByRecursion (Among p) qs
all_among_more n p l [] a = tt
all_among_more n p l (q ∷ qs) a = (among_more n p l q a.0, all_among_more n p l qs a.1)

module _ {K : Type 0} (m : Meaning K) where
  -- whether a fact holds depends on the things of its variables only
  pub holds_same : {T : Type 0} (r : Structure K T) (v w : ℕ → T) (n : ℕ) → ((x : ℕ) → x < n → v x ≡ w x) → (q : Fact K) → Among n q → Holds m r v q → Holds m r w q
  holds_same r v w n same (is_kind x k) a h = subst (λ z. m.under (r.kind_of z) k) (same x a) h
  holds_same r v w n same (leads x f y) a h = ap (r.feature f) (sym (same x a.0)) ∙ h ∙ ap Some (same y a.1)
  holds_same r v w n same (one x y) a h = sym (same x a.0) ∙ h ∙ same y a.1

  -- a fact about the ends of cells in use stays true
  pub still_holds : (h g : Heap K) → Good m.widest h → h.used ≤ g.used → g.features ≡ h.features → Extends m h g → (cell : ℕ → ℕ) (n : ℕ) → ((x : ℕ) → x < n → cell x < h.used)
      → (q : Fact K) → Among n q → Holds m (structure_of m h) (λ x. end m.widest h (cell x)) q → Holds m (structure_of m g) (λ x. end m.widest g (cell x)) q
  still_holds h g gh le same e cell n c (is_kind x k) a q = still_says m h g gh le same e cell n c (Kind x k) a q
  still_holds h g gh le same e cell n c (leads x f y) a q = still_says m h g gh le same e cell n c (Feature x f y) a q
  still_holds h g gh le same e cell n c (one x y) a q = e.ends (cell x) (cell y) (c x a.0) (c y a.1) q

  -- and so do all facts, where cells are given to the variables in another way that agrees
  pub all_still : (h g : Heap K) → Good m.widest h → h.used ≤ g.used → g.features ≡ h.features → Extends m h g → (cell now : ℕ → ℕ) (n : ℕ) → ((x : ℕ) → x < n → cell x < h.used)
      → ((x : ℕ) → x < n → now x ≡ cell x) → (qs : List (Fact K)) → AllByRecursion (Among n) qs → AllByRecursion (Holds m (structure_of m h) (λ x. end m.widest h (cell x))) qs
      → AllByRecursion (Holds m (structure_of m g) (λ x. end m.widest g (now x))) qs
  all_still h g gh le same e cell now n c agree [] a q = tt
  all_still h g gh le same e cell now n c agree (p ∷ ps) a q = (
    holds_same (structure_of m g) (λ x. end m.widest g (cell x)) (λ x. end m.widest g (now x)) n (λ x l. ap (end m.widest g) (sym (agree x l))) p a.0
        (still_holds h g gh le same e cell n c p a.0 q.0),
    all_still h g gh le same e cell now n c agree ps a.1 q.1,
  )

  -- what statements say of things is what their facts say
  pub facts_say : {T : Type 0} (r : Structure K T) (v : ℕ → T) (b : ℕ) (ts : List (Statement K)) → AllByRecursion (Holds m r v) (facts_of b ts)
      → AllByRecursion (Says m r (λ x. v (b + x))) ts
  facts_say r v b [] h = tt
  facts_say r v b (Kind x k ∷ ts) h = (h.0, facts_say r v b ts h.1)
  facts_say r v b (Feature x f y ∷ ts) h = (h.0, facts_say r v b ts h.1)

  pub say_facts : {T : Type 0} (r : Structure K T) (v : ℕ → T) (b : ℕ) (ts : List (Statement K)) → AllByRecursion (Says m r (λ x. v (b + x))) ts
      → AllByRecursion (Holds m r v) (facts_of b ts)
  say_facts r v b [] h = tt
  say_facts r v b (Kind x k ∷ ts) h = (h.0, say_facts r v b ts h.1)
  say_facts r v b (Feature x f y ∷ ts) h = (h.0, say_facts r v b ts h.1)
