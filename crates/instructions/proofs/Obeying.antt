-- The law of codes.
use Rattle.std.proofs.Common.{◌≡◌, ℕ, zero, suc, ◌+◌, ◌-◌, ◌<◌, ◌≤◌, List, [], ◌∷◌, length, Ok, sym, refl, ◌∙◌, arith}
use Rattle.std.specs.Prelude.{slice_index}
use Rattle.orders.specs.Meaning.{Meaning}
use Rattle.grammar.specs.declared.statement.Statement.{Statement}
use Rattle.grammar.specs.Lawful.{root, depths}
use Rattle.joining.specs.Heap.{Heap, push}
use Rattle.joining.specs.Good.{Good}
use Rattle.joining.proofs.Pushed.{good_push, push_refers, push_new_kind, push_new_slot, push_length}
use Rattle.performing.specs.Performing.{perform_all}
use Rattle.performing.proofs.Steps.{step_law}
use Rattle.performing.proofs.Variables.{met_most}
use Rattle.instructions.specs.Codes.{beginning, kinds, read_code, write_code}
use Rattle.instructions.specs.Steps.{entered}
use Rattle.instructions.specs.Law.{rooted, most_turns, enter, match_at, Suits, RuleLaw, TurnsLaw, CodesLaw}
use Rattle.instructions.proofs.Agreeing.{agrees_root}
use Rattle.instructions.proofs.Stretches.{Stretch}
use Rattle.instructions.proofs.Left.{rest_short}
use Rattle.instructions.proofs.Standing.{Stands}
use Rattle.instructions.proofs.Counted.{counted}
use Rattle.instructions.proofs.Together.{performed}
use Rattle.instructions.proofs.Entering.{enters}

module _ {K : Type 0} (m : Meaning K) where
  -- the root of lawful statements is in use, and there are cells for the other variables
  stands : (n : ℕ) (ss : List (Statement K)) (h : Heap K) (c : ℕ) → c < h.used → Suits m n ss h (length (depths ss) - 1) →
      Stands m (step_law m ℕ) (kinds ss) (read_code ss) (write_code ss) n root beginning (rooted h c) ss
  stands n ss h c l p =
      record {
        ready = record { in_order = record { good = p.heap; placed = λ x b. placed x b }; met = refl; features = p.features };
        agrees = agrees_root;
        lawful = p.statements;
        left = record { kinds_left = refl; read_left = refl; write_left = refl };
        room = omega (arith, p.cells, counted ss, met_most 1 ss);
      }
    where
      placed : (x : ℕ) → x < 1 → slice_index (c ∷ []) x < h.used
      placed zero b = l
      placed (suc x) b = absurd (omega arith)

  performs : (n : ℕ) (ss : List (Statement K)) (h : Heap K) (c turns : ℕ) → c < h.used → Suits m n ss h (length (depths ss) - 1) → most_turns ss ≤ turns →
      match_at m ss turns h c ≡ perform_all m ss (rooted h c)
  performs n ss h c turns l p enough =
      performed m (step_law m ℕ) (kinds ss) (read_code ss) (write_code ss) n ss root beginning (rooted h c) (stands n ss h c l p) turns
      (omega (arith, enough, rest_short beginning ss))

  rule : RuleLaw m
  rule n ss h c l p = performs n ss h c (most_turns ss) l p (omega arith)

  turns : TurnsLaw m
  turns n ss h c more l p = performs n ss h c (most_turns ss + more) l p (omega arith) ∙ sym (rule n ss h c l p)

  -- an entry's cells begin with the root's
  module _ (n : ℕ) (ss : List (Statement K)) (h : Heap K) (p : Suits m n ss h (length (depths ss))) where
    good : Good m.widest h
    good = p.heap

    some : 1 ≤ length (depths ss)
    some = omega (arith, counted ss, met_most 1 ss)

    room : h.used < length h.cells
    room = omega (arith, p.cells, some)

    root_pushed : Suits m n ss (push m.widest h) (length (depths ss) - 1)
    root_pushed =
        record {
          statements = p.statements;
          heap = good_push m.widest h good room;
          features = p.features;
          cells = omega (arith, p.cells, some, push_length m.widest h good room);
        }

    root_place : (x : ℕ) → x < 1 → slice_index (h.used ∷ []) x ≡ h.used
    root_place zero l = refl
    root_place (suc x) l = absurd (omega arith)

    stretch : Stretch m n 0 h.used root (rooted (push m.widest h) h.used)
    stretch =
        record {
          used = omega arith;
          places = λ x l u. omega (arith, root_place x u);
          own = λ i b. push_refers m.widest h good room i ∙ good.fresh_refers i b;
          untold = λ x f l u lf e. rw (root_place x u) (push_new_slot m.widest h good room f (omega (arith, p.features)));
          widest = λ x l u e i. rw (root_place x u) (push_new_kind m.widest h good room);
        }

    enters_all : perform_all m ss (rooted (push m.widest h) h.used) ≡ Ok (enter m ss h)
    unfolding entered
    enters_all =
        enters m (step_law m ℕ) (kinds ss) (read_code ss) (write_code ss) n h.used ss root beginning (rooted (push m.widest h) h.used)
        (stands n ss (push m.widest h) h.used (omega arith) root_pushed) stretch

  pub codes_law : CodesLaw m
  codes_law = record { entry = enters_all; rule = rule; turns = turns }
