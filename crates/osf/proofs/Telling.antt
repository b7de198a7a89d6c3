-- A case to which the statements of a term are told says only what every interpretation of what stands then says.
use Rattle.std.proofs.Common.{◌≡◌, ℕ, ◌+◌, ◌-◌, ◌<◌, List, [], ◌∷◌, ◌++◌, Some, length, sym, ap, ◌∙◌, subst, arith, inl, inr}
use Rattle.std.proofs.lemmas.Bool.{cases_lt}
use Rattle.std.specs.List.{AllByRecursion}
use Rattle.orders.specs.Meaning.{Meaning}
use Rattle.grammar.specs.declared.statement.Statement.{Statement}
use Rattle.joining.specs.Heap.{Heap, refers, kind}
use Rattle.joining.specs.Good.{Good}
use Rattle.joining.specs.Interpretation.{Structure, Sound}
use Rattle.performing.specs.Performing.{State}
use Rattle.performing.specs.Structures.{Says}
use Rattle.performing.specs.Following.{SoundFor, Performed}
use Rattle.osf.specs.Facts.{Fact, Holds, Interpretation, facts_of}
use Rattle.osf.specs.Runs.{Case}
use Rattle.osf.proofs.Holding.{facts_say}
use Rattle.osf.proofs.Standing.{Stands, Tells, TellsAll}
use Rattle.osf.proofs.Told.{Begins, told, old_variable, new_owns, new_cell, old_cell}

pub all_left : {X : Type 0} (P : X → Type 0) (xs ys : List X) → AllByRecursion P (xs ++ ys) → AllByRecursion P xs
all_left P [] ys a = tt
all_left P (x ∷ xs) ys a = (a.0, all_left P xs ys a.1)

pub all_right : {X : Type 0} (P : X → Type 0) (xs ys : List X) → AllByRecursion P (xs ++ ys) → AllByRecursion P ys
all_right P [] ys a = a
all_right P (x ∷ xs) ys a = all_right P xs ys a.1

module _ {K : Type 0} (m : Meaning K) where
  -- an interpretation of what stands once more is told interprets what stood
  abbrev pub before : {T : Type 0} (facts more : List (Fact K)) → Interpretation T m (facts ++ more) → Interpretation T m facts
  before facts more v = record { structure = v.structure; thing = v.thing; true_of = all_left _ facts more v.true_of }

  -- whether a heap is sound depends on the things of the cells in use only
  pub sound_same : {T : Type 0} (r : Structure K T) (t u : ℕ → T) (h : Heap K) → Good m.widest h → ((i : ℕ) → i < h.used → t i ≡ u i) → Sound m r t h → Sound m r u h
  sound_same r t u h g same s =
      record {
        one = λ i l. sym (same (refers m.widest h i) (g.inside i l)) ∙ s.one i l ∙ same i l;
        kinds = λ i l. subst (λ z. m.under (r.kind_of z) (kind m.widest h i)) (same i l) (s.kinds i l);
        leads = λ i f j l b e. ap (r.feature f) (sym (same i l)) ∙ s.leads i f j l b e ∙ ap Some (same j (g.held i f j l b e));
      }

  -- the state in which a term begins says only what is true where its first facts are
  abbrev pub BeginsSound : Type 0 → Case K → List (Fact K) → State K → Type 0
  BeginsSound T c first s =
      (r : Structure K T) (thing : ℕ → T) → Sound m r (λ i. thing (c.history.variable_of i)) c.heap → AllByRecursion (Holds m r thing) first
      → (cell : ℕ → T) × ((j : ℕ) → j < c.heap.used → cell j ≡ thing (c.history.variable_of j)) × SoundFor m r cell (λ x. thing (c.history.variables + x)) s

  module _ (c : Case K) (k : Stands m c) (first : List (Fact K)) (s : State K) (b : Begins m c first s) {T : Type 0} (sound : BeginsSound T c first s) where
    -- where nothing that a term's first facts and statements say is true, no interpretation has them
    pub sound_at_start : (ts : List (Statement K)) (v : Interpretation T m (c.history.facts ++ (first ++ facts_of c.history.variables ts))) → Tells m c (before c.history.facts _ v)
        → (cell : ℕ → T) × ((j : ℕ) → j < c.heap.used → cell j ≡ v.thing (c.history.variable_of j)) × SoundFor m v.structure cell (λ x. v.thing (c.history.variables + x)) s
        × AllByRecursion (Says m v.structure (λ x. v.thing (c.history.variables + x))) ts
    sound_at_start ts v t =
        let new = all_right _ c.history.facts _ v.true_of in
        let (cell, same, for_s) = sound v.structure v.thing t.sound (all_left _ first _ new) in
        (cell, same, for_s, facts_say m v.structure v.thing c.history.variables ts (all_right _ first _ new))

    pub tells_after : TellsAll m T c → (ts : List (Statement K)) (w : State K) → Performed m T ts s w → TellsAll m T (told c first ts w)
    tells_after tells ts w p v =
        let (cell, same, for_s, says) = sound_at_start ts v (tells (before c.history.facts _ v)) in
        let (new, agree, for_w) = p.keeps v.structure cell (λ x. v.thing (c.history.variables + x)) for_s says in
        go (tells (before c.history.facts _ v)) new (λ j l. agree j (omega (arith, l, b.used)) ∙ same j l) for_w
      where
        go : Tells m c (before c.history.facts _ v) → (new : ℕ → T) → ((j : ℕ) → j < c.heap.used → new j ≡ v.thing (c.history.variable_of j))
            → SoundFor m v.structure new (λ x. v.thing (c.history.variables + x)) w → Tells m (told c first ts w) v
        go old new agree for_w =
            record { sound = sound_same v.structure new (λ i. v.thing ((told c first ts w).history.variable_of i)) w.heap p.follows.in_order.good its_thing for_w.sound; values = values } where
              its_thing : (i : ℕ) → i < w.heap.used → new i ≡ v.thing ((told c first ts w).history.variable_of i)
              its_thing i l = elim (cases_lt i c.heap.used) [
                | inl h ↦ agree i h ∙ ap v.thing (sym (old_variable c first ts w i h))
                | inr h ↦ let (z, q, e, is) = new_owns m c k first s b ts w p.follows i h l in ap new (sym is) ∙ for_w.values z q ∙ ap v.thing (sym e)
              ]

              values : (x : ℕ) → x < (told c first ts w).history.variables → v.thing ((told c first ts w).history.variable_of ((told c first ts w).history.cell_of x)) ≡ v.thing x
              values x l = elim (cases_lt x c.history.variables) [
                | inl h ↦
                    let e = old_cell c first ts w x h in
                    ap (λ i. v.thing ((told c first ts w).history.variable_of i)) e ∙ ap v.thing (old_variable c first ts w (c.history.cell_of x) (k.cells x h)) ∙ old.values x h
                | inr h ↦
                    let e = new_cell c first ts w x h in
                    let q : x - c.history.variables < length w.places = omega (arith, l, h) in
                    let is : c.history.variables + (x - c.history.variables) ≡ x = omega (arith, h) in
                    ap (λ i. v.thing ((told c first ts w).history.variable_of i)) e ∙ sym (its_thing _ (p.follows.in_order.placed (x - c.history.variables) q)) ∙ for_w.values (x - c.history.variables) q ∙ ap v.thing is
              ]
