-- A case to which the statements of a term are told: it makes them true, and says nothing beyond them.
use Rattle.std.proofs.Common.{◌≡◌, ℕ, ◌+◌, ◌-◌, ◌<◌, ◌≤◌, List, [], ◌∷◌, ◌++◌, length, slice_index, refl, sym, ap, ◌∙◌, subst, arith, inl, inr}
use Rattle.std.proofs.lemmas.Bool.{cases_lt, lt-ltb, le-ltb}
use Rattle.std.proofs.ByRecursion.{All-append}
use Rattle.std.specs.List.{AllByRecursion}
use Rattle.orders.specs.Meaning.{Meaning}
use Rattle.grammar.specs.declared.statement.Statement.{Statement}
use Rattle.joining.specs.Heap.{end}
use Rattle.joining.specs.Law.{Extends}
use Rattle.performing.specs.Performing.{State, end_of}
use Rattle.performing.specs.Structures.{structure_of, Says}
use Rattle.performing.specs.Following.{InOrder, Follows}
use Rattle.joining.proofs.Extending.{extends_on}
use Rattle.performing.proofs.Onward.{Within}
use Rattle.performing.proofs.Lists.{says_same}
use Rattle.osf.specs.Facts.{Fact, Holds, facts_of}
use Rattle.osf.specs.Runs.{Case, first_with, with_term}
use Rattle.osf.specs.Law.{thing_of}
use Rattle.osf.proofs.Owners.{first_owns, Owns}
use Rattle.osf.proofs.Holding.{Among, all_among, all_among_more, all_still, say_facts}
use Rattle.osf.proofs.Standing.{Stands}

-- the case that a term leaves which began with the facts `first`, then told its statements, and came to the state w
abbrev pub told : {K : Type 0} → Case K → List (Fact K) → List (Statement K) → State K → Case K
told c first ts w =
    record { heap = w.heap; history = with_term c.history (first ++ facts_of c.history.variables ts) w.places c.heap.used }

module _ {K : Type 0} (c : Case K) (first : List (Fact K)) (ts : List (Statement K)) (w : State K) where
  -- the variables before have the cells that they had; those of the term come after
  pub old_cell : (x : ℕ) → x < c.history.variables → (told c first ts w).history.cell_of x ≡ c.history.cell_of x
  old_cell x l = rw (lt-ltb x c.history.variables l) refl

  pub new_cell : (x : ℕ) → c.history.variables ≤ x → (told c first ts w).history.cell_of x ≡ slice_index w.places (x - c.history.variables)
  new_cell x l = rw (le-ltb x c.history.variables l) refl

  pub its_cell : (x : ℕ) → (told c first ts w).history.cell_of (c.history.variables + x) ≡ slice_index w.places x
  its_cell x =
      let e : c.history.variables + x - c.history.variables ≡ x = omega arith in
      new_cell (c.history.variables + x) (omega arith) ∙ ap (slice_index w.places) e

  pub old_variable : (i : ℕ) → i < c.heap.used → (told c first ts w).history.variable_of i ≡ c.history.variable_of i
  old_variable i l = rw (lt-ltb i c.heap.used l) refl

module _ {K : Type 0} (m : Meaning K) where
  -- the state s in which a term begins on a case, its first facts being `first`: the root has its cell, and nothing else is new
  pub record Begins (c : Case K) (first : List (Fact K)) (s : State K) : Type 0 where
    pub in_order : InOrder m s
    pub used : c.heap.used ≤ s.heap.used
    pub features : s.heap.features ≡ c.heap.features
    pub extends : Extends m c.heap s.heap
    pub root : length s.places ≡ 1
    pub pushed : (j : ℕ) → c.heap.used ≤ j → j < s.heap.used → slice_index s.places 0 ≡ j
    pub among : AllByRecursion (Among (c.history.variables + 1)) first
    pub true_of : (ts : List (Statement K)) (w : State K) → Follows m s w → AllByRecursion (Holds m (structure_of m w.heap) (thing_of m (told c first ts w))) first

  module _ (c : Case K) (k : Stands m c) (first : List (Fact K)) (s : State K) (b : Begins c first s) (ts : List (Statement K)) (w : State K) (f : Follows m s w) where
    abbrev pub after : Case K
    after = told c first ts w

    abbrev pub n : ℕ
    n = c.history.variables

    some : 1 ≤ length w.places
    some = omega (arith, f.met, b.root)

    pub new_owns : (i : ℕ) → c.heap.used ≤ i → i < w.heap.used → Owns i n w.places (after.history.variable_of i)
    new_owns i l g =
        let e : after.history.variable_of i ≡ first_with i n w.places = rw (le-ltb i c.heap.used l) refl in
        subst (Owns i n w.places) (sym e) (elim (cases_lt i s.heap.used) [
          | inl h ↦ first_owns i n w.places 0 (omega (arith, some)) (f.places 0 (omega (arith, b.root)) ∙ b.pushed i l h)
          | inr h ↦ let (y, p, q, r) = f.pushed i h g in first_owns i n w.places y q r
        ])

    pub whole : Extends m c.heap w.heap
    whole = extends_on m c.heap s.heap w.heap k.good b.in_order.good b.used b.features b.extends f.extends

    pub grown : c.heap.used ≤ w.heap.used
    grown = omega (arith, b.used, f.used)

    its_variables : AllByRecursion (Within (length w.places)) ts → AllByRecursion (Among (n + length w.places)) (first ++ facts_of n ts)
    its_variables a = All-append _ first _ (all_among_more _ _ (omega (arith, some)) first b.among) (all_among n (length w.places) ts a)

    -- what the statements say of the ends of their variables' cells, their facts say
    its_facts : AllByRecursion (Within (length w.places)) ts → AllByRecursion (Says m (structure_of m w.heap) (end_of m w)) ts
        → AllByRecursion (Holds m (structure_of m w.heap) (thing_of m after)) (facts_of n ts)
    its_facts a h = say_facts m (structure_of m w.heap) (thing_of m after) n ts (go ts a h) where
      go : (ss : List (Statement K)) → AllByRecursion (Within (length w.places)) ss → AllByRecursion (Says m (structure_of m w.heap) (end_of m w)) ss
          → AllByRecursion (Says m (structure_of m w.heap) (λ x. thing_of m after (n + x))) ss
      go [] a h = tt
      go (t ∷ ss) a h = (
        says_same m (structure_of m w.heap) (end_of m w) (λ x. thing_of m after (n + x)) (length w.places) (λ x l. ap (end m.widest w.heap) (sym (its_cell c first ts w x))) t a.0 h.0,
        go ss a.1 h.1,
      )

    pub stands_after : AllByRecursion (Within (length w.places)) ts → AllByRecursion (Says m (structure_of m w.heap) (end_of m w)) ts → Stands m after
    stands_after a h =
        record {
          good = f.in_order.good;
          cells = cells;
          known = known;
          own = own;
          among = All-append _ c.history.facts _ (all_among_more n (n + length w.places) (omega arith) c.history.facts k.among) (its_variables a);
          true_of =
              All-append _ c.history.facts _
              (all_still m c.heap w.heap k.good grown (f.features ∙ b.features) whole c.history.cell_of after.history.cell_of n k.cells (old_cell c first ts w) c.history.facts k.among k.true_of)
              (All-append _ first _ (b.true_of ts w f) (its_facts a h));
        }
      where
        cells : (x : ℕ) → x < after.history.variables → after.history.cell_of x < w.heap.used
        cells x l = elim (cases_lt x n) [
          | inl h ↦ omega (arith, old_cell c first ts w x h, k.cells x h, grown)
          | inr h ↦ omega (arith, new_cell c first ts w x h, f.in_order.placed (x - n) (omega (arith, l, h)))
        ]

        known : (i : ℕ) → i < w.heap.used → after.history.variable_of i < after.history.variables
        known i l = elim (cases_lt i c.heap.used) [
          | inl h ↦ omega (arith, old_variable c first ts w i h, k.known i h)
          | inr h ↦ let (z, p, q, r) = new_owns i h l in omega (arith, p, q)
        ]

        own : (i : ℕ) → i < w.heap.used → after.history.cell_of (after.history.variable_of i) ≡ i
        own i l = elim (cases_lt i c.heap.used) [
          | inl h ↦ ap after.history.cell_of (old_variable c first ts w i h) ∙ old_cell c first ts w (c.history.variable_of i) (k.known i h) ∙ k.own i h
          | inr h ↦ let (z, p, q, r) = new_owns i h l in ap after.history.cell_of q ∙ its_cell c first ts w z ∙ r
        ]
