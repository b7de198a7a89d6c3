-- What calls leave of a case's memory.
use Rattle.std.proofs.Common.{◌≡◌, ℕ, ◌+◌, ◌<◌, List, ◌++◌, length, drop, Some, None, Ok, Err, Option, Result, refl, sym, ap, ◌∙◌, arith}
use Rattle.refusals.specs.declared.Refusal.{Refusal}
use Rattle.orders.specs.Meaning.{Meaning}
use Rattle.grammar.specs.declared.statement.Statement.{Statement}
use Rattle.joining.specs.Heap.{Heap}
use Rattle.joining.specs.Joining.{join}
use Rattle.joining.specs.Law.{Outcome}
use Rattle.joining.proofs.Join.{join_law}
use Rattle.joining.proofs.Kept.{end_in, end_root}
use Rattle.joining.proofs.Pushed.{push_length, push_slots}
use Rattle.performing.specs.Performing.{State}
use Rattle.performing.specs.Following.{met_by}
use Rattle.performing.proofs.Lists.{AllPerformed}
use Rattle.performing.proofs.Variables.{met_most}
use Rattle.instructions.specs.Law.{most_turns, enter, match_at}
use Rattle.instructions.proofs.Obeying.{codes_law}
use Rattle.osf.specs.Calls.{Left, LetThrough, variables_of, accepted, accepted_if, joined_if}
use Rattle.osf.specs.Runs.{Case, run}
use Rattle.osf.specs.Memory.{Bounded, SameSize, Writes, Keeps, MemoryOfRuns}
use Rattle.osf.proofs.Calls.{enters_by, matches_by, joins_by, ok_err}
use Rattle.osf.proofs.Fitting.{all_met}
use Rattle.osf.proofs.Beginning.{at_cell}
use Rattle.osf.proofs.Leaving.{Lawful, entry_performed, rule_performed}
use Rattle.osf.proofs.Running.{run_lawful}

module _ {K : Type 0} (m : Meaning K) (c : Case K) (k : Lawful m ℕ c) where
  bounded : Bounded m c
  bounded =
      record {
        ends = λ i l. (end_in m.widest c.heap k.stands.good i l, end_root m.widest c.heap k.stands.good i l);
        joins = λ i j room turns a b. (join_law ℕ m c.heap i j k.stands.good a b).1 room turns;
        matches = λ l ss i turns places (n, term).
            matches_by m l c.heap (λ left. LetThrough left.answer → match_at m ss (most_turns ss + turns) c.heap i ≡ match_at m ss (most_turns ss) c.heap i) n ss term places (λ e q t. absurd (q t)) i
            (λ b law fit room long t.
            (codes_law m).turns c.heap.features ss c.heap i turns b (record { statements = law; heap = k.stands.good; features = omega arith; cells = omega (arith, room, all_met ss, met_most 1 ss) }));
        unused = λ i l. (k.stands.good.fresh_refers i l, k.stands.good.fresh_kind i l);
        unused_slots = λ i f l b. k.stands.good.fresh_slot i f l b;
      }

  same : SameSize m c.heap c.heap
  same = record { used = omega arith; features = refl; cells = refl; slots = refl }

  -- what a call that performs a term leaves
  abbrev Leaves : List (Statement K) → List ℕ → Left K → Type 0
  Leaves ss places l = SameSize m c.heap l.heap × Writes m ss places l

  refused_so : (ss : List (Statement K)) (places : List ℕ) (e : Refusal) → Leaves ss places (record { heap = c.heap; places = places; answer = Err e })
  refused_so ss places e = (same, λ n q. ok_err (sym q))

  writes : (ss : List (Statement K)) (places : List ℕ) (w : State K) → length w.places ≡ met_by 1 ss → Writes m ss places (accepted w places)
  writes ss places w e n q =
      let count : length w.places ≡ variables_of ss = e ∙ all_met ss in (w.places, count, ap (λ x. w.places ++ drop x places) count)

  keeps : Keeps m c
  keeps =
      record {
        entering = λ l ss places (n, term).
            enters_by m l c.heap (Leaves ss places) n ss term places (λ e q. refused_so ss places e)
            (λ law fit room long.
            let some : c.heap.used < length c.heap.cells = omega (arith, room, met_most 1 ss) in
            let p = entry_performed m ℕ c k n ss term l places law fit room some in (
              record {
                used = omega (arith, p.follows.used);
                features = p.follows.features;
                cells = p.follows.cells ∙ push_length m.widest c.heap k.stands.good some;
                slots = p.follows.slots ∙ push_slots m.widest c.heap k.stands.good some;
              },
              writes ss places (enter m ss c.heap) p.count,
            ));
        matching = λ l ss i places (n, term).
            matches_by m l c.heap (Leaves ss places) n ss term places (λ e q. refused_so ss places e) i
            (λ b law fit room long. performed ss places i (match_at m ss (most_turns ss) c.heap i) (rule_performed m ℕ c k n ss term l places i b law fit room));
        joining = λ l i j.
            joins_by m l c.heap (λ left. SameSize m c.heap left.heap) i j (λ e q. same)
            (λ a b. joined (join m i j c.heap) i j (join_law ℕ m c.heap i j k.stands.good a b).0);
      }
    where
      performed : (ss : List (Statement K)) (places : List ℕ) (i : ℕ) (r : Result (State K) ℕ) → AllPerformed m ℕ 0 ss (at_cell c i) r → Leaves ss places (accepted_if r c.heap places)
      performed ss places i (Ok w) p =
          (record { used = p.follows.used; features = p.follows.features; cells = p.follows.cells; slots = p.follows.slots }, writes ss places w p.count)
      performed ss places i (Err s) p = refused_so ss places _

      joined : (o : Option (Heap K)) (i j : ℕ) → Outcome ℕ m i j c.heap o → SameSize m c.heap (joined_if o c.heap).heap
      joined (Some g) i j h = record { used = omega (arith, h.used); features = h.features; cells = h.cells; slots = h.slots }
      joined None i j h = same

pub memory_of_runs : {K : Type 0} (m : Meaning K) → MemoryOfRuns m
memory_of_runs m n f calls h =
    let k = run_lawful m ℕ n f calls h in (bounded m (run m n f calls) k, keeps m (run m n f calls) k)
