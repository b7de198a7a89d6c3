-- The law of a run: what the answers of a case mean, for every order, any calls and any type of things.
--
-- After any calls, refused ones included, the case is an interpretation of all that stands, and the questions are answered from it; it
-- says nothing that is not so in every interpretation; and a match clashes at a statement exactly when what stands has no
-- interpretation together with the rule's statements up to this one, but has one together with those before it.
use Rattle.std.specs.Prelude.{◌≡◌, ℕ, ◌-◌, ◌<◌, false, List, [], ◌∷◌, ◌++◌, Some, Ok, Err, Result}
use Rattle.std.specs.List.{AllByRecursion}
use Rattle.refusals.specs.declared.Refusal.{Refusal}
use Rattle.refusals.specs.declared.Refusal.TheVariants.{Clash}
use Rattle.orders.specs.Meaning.{Meaning}
use Rattle.grammar.specs.declared.statement.Statement.{Statement}
use Rattle.joining.specs.Heap.{kind, slot, end}
use Rattle.performing.specs.Structures.{structure_of}
use Rattle.osf.specs.Facts.{Fact, one, Holds, Interpretation}
use Rattle.osf.specs.Calls.{Lent, LetThrough, short, enters, matches, joins, kind_asked, feature_asked}
use Rattle.osf.specs.Runs.{Case, Made, LawfulCall, OfTerm, with_rule, run}

module _ {K : Type 0} (m : Meaning K) where
  -- a variable's thing in the case is the end of its cell
  abbrev pub thing_of : Case K → ℕ → ℕ
  thing_of c x = end m.widest c.heap (c.history.cell_of x)

  -- the case is an interpretation of what stands, in which each cell in use is its variable's thing; and questions are answered from it
  pub record IsModel (c : Case K) : Type 0 where
    pub true_of : AllByRecursion (Holds m (structure_of m c.heap) (thing_of c)) c.history.facts
    pub own : (i : ℕ) → i < c.heap.used → thing_of c (c.history.variable_of i) ≡ end m.widest c.heap i
    pub kinds : (l : Lent) (i : ℕ) → short l c.heap ≡ false → i < c.heap.used
        → kind_asked m l i c.heap ≡ Ok ((structure_of m c.heap).kind_of (end m.widest c.heap i))
    pub features : (l : Lent) (i f : ℕ) → short l c.heap ≡ false → i < c.heap.used → f < c.heap.features
        → feature_asked m l i f c.heap ≡ Ok ((structure_of m c.heap).feature f (end m.widest c.heap i))

  -- in an interpretation of what stands, a cell is its variable's thing: cells with one end are one thing, whose kind is at or under the
  -- end's, and a feature that leads from the end to a cell leads from the thing to that cell's thing
  pub record MostGeneral (T : Type 0) (c : Case K) (v : Interpretation T m c.history.facts) : Type 0 where
    pub one_thing : (i j : ℕ) → i < c.heap.used → j < c.heap.used → end m.widest c.heap i ≡ end m.widest c.heap j
        → v.thing (c.history.variable_of i) ≡ v.thing (c.history.variable_of j)
    pub kinds : (i : ℕ) → i < c.heap.used → m.under (v.structure.kind_of (v.thing (c.history.variable_of i))) (kind m.widest c.heap (end m.widest c.heap i))
    pub features : (i f j : ℕ) → i < c.heap.used → f < c.heap.features → slot c.heap (end m.widest c.heap i) f ≡ Some j
        → v.structure.feature f (v.thing (c.history.variable_of i)) ≡ Some (v.thing (c.history.variable_of j))

  -- a call that adds facts one by one clashes at s exactly when there is no interpretation with the first s, but one with one fewer
  pub record ClashesExactly (T : Type 0) (standing : ℕ → List (Fact K)) (answer : Result ℕ Refusal) : Type 0 where
    pub none : (s : ℕ) → answer ≡ Err (Clash s) → Interpretation T m (standing s) → ⊥
    pub before : (s : ℕ) → answer ≡ Err (Clash s) → Interpretation ℕ m (standing (s - 1))
    pub only : (s : ℕ) → (Interpretation ℕ m (standing s) → ⊥) → Interpretation T m (standing (s - 1)) → answer ≡ Err (Clash s)

  -- a join clashes exactly when there is no interpretation with its fact
  pub record JoinClashes (T : Type 0) (standing : List (Fact K)) (answer : Result ℕ Refusal) : Type 0 where
    pub none : (s : ℕ) → answer ≡ Err (Clash s) → (s ≡ 0) × (Interpretation T m standing → ⊥)
    pub only : (Interpretation ℕ m standing → ⊥) → answer ≡ Err (Clash 0)

  pub record Law (T : Type 0) (c : Case K) : Type 0 where
    pub model : IsModel c
    pub most_general : (v : Interpretation T m c.history.facts) → MostGeneral T c v
    pub matching : (l : Lent) (ss : List (Statement K)) (i : ℕ) (places : List ℕ) → OfTerm ss → LetThrough (matches m l ss i places c.heap).answer
        → ClashesExactly T (λ s. c.history.facts ++ with_rule c ss i s) (matches m l ss i places c.heap).answer
    pub joining : (l : Lent) (i j : ℕ) → LetThrough (joins m l i j c.heap).answer
        → JoinClashes T (c.history.facts ++ one (c.history.variable_of i) (c.history.variable_of j) ∷ []) (joins m l i j c.heap).answer
    pub entering : (l : Lent) (ss : List (Statement K)) (places : List ℕ) (s : ℕ) → OfTerm ss → (enters m l ss places c.heap).answer ≡ Err (Clash s) → ⊥

  abbrev pub LawOfRuns : Type 0 → Type 0
  LawOfRuns T = (n f : ℕ) (calls : List (Made K)) → AllByRecursion (λ c. LawfulCall c.call) calls → Law T (run m n f calls)
