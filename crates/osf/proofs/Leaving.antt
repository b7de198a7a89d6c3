-- What each call leaves: all that stands is made true, and nothing beyond it is said.
use Rattle.std.proofs.Common.{◌≡◌, ℕ, true, ◌+◌, ◌<◌, ◌≤◌, List, [], ◌++◌, length, take, drop, Some, None, Ok, Err, Option, Result, refl, sym, ap, ◌∙◌, subst, arith}
use Rattle.std.proofs.lemmas.List.{take_all, take-append-le}
use Rattle.std.specs.List.{AllByRecursion}
use Rattle.orders.specs.Meaning.{Meaning}
use Rattle.grammar.specs.declared.statement.Statement.{Statement}
use Rattle.grammar.specs.Lawful.{lawful}
use Rattle.joining.specs.Heap.{Heap}
use Rattle.joining.proofs.Pushed.{push_length}
use Rattle.joining.specs.Joining.{join}
use Rattle.joining.specs.Law.{Outcome}
use Rattle.joining.proofs.Join.{join_law}
use Rattle.performing.specs.Performing.{State}
use Rattle.performing.specs.Following.{AllFit, met_by, Performed}
use Rattle.performing.proofs.Onward.{Within}
use Rattle.performing.proofs.Lists.{AllPerformed}
use Rattle.performing.proofs.Variables.{all_within, met_most}
use Rattle.performing.proofs.Steps.{all_performed}
use Rattle.osf.specs.Facts.{Fact, facts_of}
use Rattle.instructions.proofs.Obeying.{codes_law}
use Rattle.instructions.specs.Law.{most_turns, enter, match_at}
use Rattle.osf.specs.Calls.{Lent, Left, variables_of, accepted, accepted_if, joined_if, enters, matches, joins}
use Rattle.osf.specs.Runs.{Case, with_rule, after_term, if_accepted, with_fact, with_term}
use Rattle.osf.proofs.Calls.{enters_by, matches_by, joins_by}
use Rattle.osf.proofs.Fitting.{all_met}
use Rattle.osf.proofs.Standing.{Stands, TellsAll}
use Rattle.osf.proofs.Told.{Begins, told, stands_after}
use Rattle.osf.proofs.Telling.{BeginsSound, tells_after}
use Rattle.osf.proofs.Beginning.{at_cell, at_new, root_fact, rule_begins, rule_sound, entry_begins, entry_sound}
use Rattle.osf.proofs.Pairs.{one_fact, stands_paired, tells_paired}

module _ {K : Type 0} (m : Meaning K) where
  module _ (T : Type 0) where
    -- what is so of a case after any calls
    pub record Lawful (c : Case K) : Type 0 where
      pub stands : Stands m c
      pub tells : TellsAll m T c

    module _ (c : Case K) (k : Lawful c) where
      -- a term that is performed whole
      module _ (first : List (Fact K)) (s : State K) (b : Begins m c first s) (sound : BeginsSound m T c first s) (ss : List (Statement K)) (fit : AllFit c.heap.features 1 ss) where
        lawful_told : (w : State K) → Performed m T ss s w → Lawful (told c first ss w)
        lawful_told w p =
            let all = subst (λ q. AllByRecursion (Within q) ss) (sym (p.count ∙ ap (λ q. met_by q ss) b.root)) (all_within c.heap.features 1 ss fit) in
            record { stands = stands_after m c k.stands first s b ss w p.follows all p.true_of; tells = tells_after m c k.stands first s b sound k.tells ss w p }

        -- the case is the one that the call leaves
        its_places : (w : State K) → Performed m T ss s w → (places : List ℕ) → take (variables_of ss) (w.places ++ drop (length w.places) places) ≡ w.places
        its_places w p places =
            let n : variables_of ss ≡ length w.places = omega (arith, p.count, ap (λ q. met_by q ss) b.root, all_met ss) in
            ap (λ q. take q (w.places ++ drop (length w.places) places)) n ∙ take-append-le (length w.places) w.places _ (omega arith) ∙ take_all (length w.places) w.places (omega arith)

        pub lawful_accepted : (facts : List (Fact K)) → facts ≡ first ++ facts_of c.history.variables ss → (w : State K) → Performed m T ss s w → (places : List ℕ)
            → Lawful (after_term m c ss facts (accepted w places))
        lawful_accepted facts e w p places =
            subst (λ ps. Lawful (record { heap = w.heap; history = with_term c.history facts ps c.heap.used })) (sym (its_places w p places))
            (subst (λ fs. Lawful (record { heap = w.heap; history = with_term c.history fs w.places c.heap.used })) (sym e) (lawful_told w p))

      module _ (n : ℕ) (ss : List (Statement K)) (term : lawful n ss ≡ true) (l : Lent) (places : List ℕ) where
        -- an entry
        pub entry_performed : lawful c.heap.features ss ≡ true → AllFit c.heap.features 1 ss → c.heap.used + met_by 1 ss ≤ length c.heap.cells → c.heap.used < length c.heap.cells
            → Performed m T ss (at_new m.widest c) (enter m ss c.heap)
        entry_performed term fit room some =
            subst (AllPerformed m T 0 ss (at_new m.widest c)) ((codes_law m).entry c.heap.features ss c.heap (record { statements = term; heap = k.stands.good; features = omega arith; cells = omega (arith, room, all_met ss) }))
            (all_performed m T 0 ss (at_new m.widest c) (entry_begins m c k.stands some).in_order fit (omega (arith, room, push_length m.widest c.heap k.stands.good some)))

        pub entry_leaves : Lawful (after_term m c ss (facts_of c.history.variables ss) (enters m l ss places c.heap))
        entry_leaves =
            enters_by m l c.heap (λ left. Lawful (after_term m c ss (facts_of c.history.variables ss) left)) n ss term places (λ e q. k)
            (λ law fit room long.
            let some : c.heap.used < length c.heap.cells = omega (arith, room, met_most 1 ss) in
            lawful_accepted [] (at_new m.widest c) (entry_begins m c k.stands some) (entry_sound m c k.stands T some) ss fit _ refl (enter m ss c.heap) (entry_performed law fit room some) places)

        -- a rule at a cell
        module _ (i : ℕ) where
          pub rule_performed : i < c.heap.used → lawful c.heap.features ss ≡ true → AllFit c.heap.features 1 ss → c.heap.used + met_by 1 ss ≤ length c.heap.cells + 1
              → AllPerformed m T 0 ss (at_cell c i) (match_at m ss (most_turns ss) c.heap i)
          rule_performed b term fit room =
              subst (AllPerformed m T 0 ss (at_cell c i)) (sym ((codes_law m).rule c.heap.features ss c.heap i b (record { statements = term; heap = k.stands.good; features = omega arith; cells = omega (arith, room, all_met ss, met_most 1 ss) })))
              (all_performed m T 0 ss (at_cell c i) (rule_begins m c k.stands i b).in_order fit room)

          pub rule_leaves : Lawful (after_term m c ss (with_rule c ss i (length ss)) (matches m l ss i places c.heap))
          rule_leaves =
              matches_by m l c.heap (λ left. Lawful (after_term m c ss (with_rule c ss i (length ss)) left)) n ss term places (λ e q. k) i
              (λ b law fit room long. go b fit (match_at m ss (most_turns ss) c.heap i) (rule_performed b law fit room))
            where
              all : with_rule c ss i (length ss) ≡ root_fact c i ++ facts_of c.history.variables ss
              all = ap (λ ts. root_fact c i ++ facts_of c.history.variables ts) (take_all (length ss) ss (omega arith))

              go : i < c.heap.used → AllFit c.heap.features 1 ss → (r : Result (State K) ℕ) → AllPerformed m T 0 ss (at_cell c i) r
                  → Lawful (after_term m c ss (with_rule c ss i (length ss)) (accepted_if r c.heap places))
              go b fit (Ok w) p = lawful_accepted (root_fact c i) (at_cell c i) (rule_begins m c k.stands i b) (rule_sound m c k.stands T i b) ss fit _ all w p places
              go b fit (Err s) p = k

      -- a join
      abbrev pub after_join : ℕ → ℕ → Left K → Case K
      after_join i j left = record { heap = left.heap; history = if_accepted left.answer c.history (with_fact c.history (one_fact c i j)) }

      pub join_leaves : (l : Lent) (i j : ℕ) → Lawful (after_join i j (joins m l i j c.heap))
      join_leaves l i j =
          joins_by m l c.heap (λ left. Lawful (after_join i j left)) i j (λ e q. k) (λ a b. go a b (join m i j c.heap) (join_law T m c.heap i j k.stands.good a b).0) where
            go : i < c.heap.used → j < c.heap.used → (o : Option (Heap K)) → Outcome T m i j c.heap o → Lawful (after_join i j (joined_if o c.heap))
            go a b (Some g) h = record { stands = stands_paired m T c k.stands i j a b g h; tells = tells_paired m T c k.stands i j a b k.tells g h }
            go a b None h = k
