-- A rule clashes at a statement exactly when what stands has no interpretation with the statements up to this one, but has one with those
-- before it.
use Rattle.std.proofs.Common.{◌≡◌, ℕ, zero, suc, ◌+◌, ◌-◌, ◌<◌, ◌≤◌, List, [], ◌∷◌, ◌++◌, length, take, Ok, Err, Result, sym, ap, ◌∙◌, subst, arith, inl, inr}
use Rattle.std.proofs.lemmas.Bool.{cases_lt}
use Rattle.std.proofs.lemmas.List.{take_all}
use Rattle.std.proofs.ByRecursion.{All-append}
use Rattle.std.specs.List.{AllByRecursion}
use Rattle.refusals.specs.declared.Refusal.{Refusal}
use Rattle.refusals.specs.declared.Refusal.TheVariants.{Clash}
use Rattle.orders.specs.Meaning.{Meaning}
use Rattle.grammar.specs.declared.statement.Statement.{Statement}
use Rattle.performing.specs.Performing.{State}
use Rattle.performing.specs.Structures.{structure_of}
use Rattle.performing.specs.Following.{AllFit, met_after, NeverTrue, Performed}
use Rattle.performing.proofs.Onward.{Within}
use Rattle.performing.proofs.Lists.{AllPerformed}
use Rattle.performing.proofs.Variables.{all_within}
use Rattle.osf.specs.Facts.{Fact, Holds, Interpretation, facts_of}
use Rattle.osf.specs.Calls.{accepted_if}
use Rattle.osf.specs.Runs.{Case, with_rule}
use Rattle.osf.specs.Law.{ClashesExactly, thing_of}
use Rattle.osf.proofs.Calls.{ok_err}
use Rattle.osf.proofs.Standing.{Stands, TellsAll}
use Rattle.osf.proofs.Told.{told, stands_after}
use Rattle.osf.proofs.Telling.{all_left, all_right, before, sound_at_start}
use Rattle.osf.proofs.Beginning.{at_cell, root_fact, rule_begins, rule_sound}

pub fit_first : {K : Type 0} (features p n : ℕ) (ts : List (Statement K)) → AllFit features p ts → AllFit features p (take n ts)
unfolding AllFit
fit_first features p zero ts f = tt
fit_first features p (suc n) [] f = tt
fit_first features p (suc n) (t ∷ ts) f = (f.0, fit_first features (met_after p t) n ts f.1)

-- what is so of the first n is so of fewer
first_facts : {K : Type 0} (P : Fact K → Type 0) (b n p : ℕ) (ts : List (Statement K)) → n ≤ p → AllByRecursion P (facts_of b (take p ts)) → AllByRecursion P (facts_of b (take n ts))
first_facts P b zero p ts l a = tt
first_facts P b (suc n) zero ts l a = absurd (omega (arith, l))
first_facts P b (suc n) (suc p) [] l a = tt
first_facts P b (suc n) (suc p) (t ∷ ts) l a = (a.0, first_facts P b n p ts (omega (arith, l)) a.1)

module _ {K : Type 0} (m : Meaning K) where
  -- the case interprets what stands
  pub interprets : (c : Case K) → Stands m c → Interpretation ℕ m c.history.facts
  interprets c k = record { structure = structure_of m c.heap; thing = thing_of m c; true_of = k.true_of }

  module _ (c : Case K) (i : ℕ) (ts : List (Statement K)) where
    abbrev pub standing : ℕ → List (Fact K)
    standing s = c.history.facts ++ with_rule c ts i s

    pub fewer : (U : Type 0) (n p : ℕ) → n ≤ p → Interpretation U m (standing p) → Interpretation U m (standing n)
    fewer U n p l v =
        let old = all_left (Holds m v.structure v.thing) c.history.facts (with_rule c ts i p) v.true_of in
        let new = all_right (Holds m v.structure v.thing) c.history.facts (with_rule c ts i p) v.true_of in
        record {
          structure = v.structure;
          thing = v.thing;
          true_of = All-append _ c.history.facts (with_rule c ts i n) old (new.0, first_facts (Holds m v.structure v.thing) c.history.variables n p ts l new.1);
        }

    module _ (T : Type 0) (k : Stands m c) (tells : TellsAll m T c) (l : i < c.heap.used) (fit : AllFit c.heap.features 1 ts) where
      -- where the first n are performed, the case that they leave is an interpretation
      has_some : (n : ℕ) (w : State K) → Performed m T (take n ts) (at_cell c i) w → Interpretation ℕ m (standing n)
      has_some n w p =
          interprets (told c (root_fact c i) (take n ts) w)
          (stands_after m c k (root_fact c i) (at_cell c i) (rule_begins m c k i l) (take n ts) w p.follows
          (subst (λ q. AllByRecursion (Within q) (take n ts)) (sym p.count) (all_within c.heap.features 1 (take n ts) (fit_first c.heap.features 1 n ts fit))) p.true_of)

      has_none : (n : ℕ) → NeverTrue m T (take n ts) (at_cell c i) → Interpretation T m (standing n) → ⊥
      has_none n never v =
          let (cell, same, for_s, says) =
          sound_at_start m c k (root_fact c i) (at_cell c i) (rule_begins m c k i l) (rule_sound m c k T i l) (take n ts) v (tells (before m c.history.facts _ v)) in
          never v.structure cell _ for_s says

      pub clashes : (r : Result (State K) ℕ) (places : List ℕ) → AllPerformed m T 0 ts (at_cell c i) r → ClashesExactly m T standing (accepted_if r c.heap places).answer
      clashes (Ok w) places p =
          record {
            none = λ s q v. ok_err q;
            before = λ s q. ok_err q;
            only = λ s none v. absurd (none (fewer ℕ s (length ts + s) (omega arith) (has_some (length ts + s) w (subst (λ xs. Performed m T xs (at_cell c i) w) (sym (take_all (length ts + s) ts (omega arith))) p))));
          }
      clashes (Err x) places (n, e, b, w, p, never) =
          record {
            none = λ s q v. has_none (suc n) never (subst (λ y. Interpretation T m (standing y)) (sym (same s q) ∙ is) v);
            before = λ s q. let d : n ≡ s - 1 = omega (arith, is, same s q) in subst (λ y. Interpretation ℕ m (standing y)) d (has_some n w p);
            only = λ s none v. elim (cases_lt s (suc n)) [
              | inl h ↦ absurd (none (fewer ℕ s n (omega (arith, h)) (has_some n w p)))
              | inr h ↦ elim (cases_lt (suc n) s) [
                | inl g ↦ absurd (has_none (suc n) never (fewer T (suc n) (s - 1) (omega (arith, g)) v))
                | inr g ↦ let d : x ≡ s = omega (arith, is, h, g) in ap (λ y. Err (Clash y)) d
              ]
            ];
          }
        where
          is : x ≡ suc n
          is = omega (arith, e)

          same : (s : ℕ) → ◌≡◌ {A = Result ℕ Refusal} (Err (Clash x)) (Err (Clash s)) → x ≡ s
          same s q = cc
