-- The law of a run: it holds of a case as it is opened, and after each call.
use Rattle.std.proofs.Common.{◌≡◌, ℕ, false, ◌<◌, List, [], ◌∷◌, ◌++◌, Some, None, Err, Option, Result, nat_le, refl, sym, ap, ◌∙◌, subst, arith}
use Rattle.std.proofs.lemmas.Bool.{lt-ltb, lt-leb}
use Rattle.std.specs.List.{AllByRecursion}
use Rattle.refusals.specs.declared.Refusal.{Refusal}
use Rattle.refusals.specs.declared.Refusal.TheVariants.{Clash}
use Rattle.orders.specs.Meaning.{Meaning}
use Rattle.grammar.specs.declared.statement.Statement.{Statement}
use Rattle.joining.specs.Heap.{Heap, opened, end}
use Rattle.joining.specs.Joining.{join}
use Rattle.joining.specs.Law.{Outcome}
use Rattle.joining.proofs.Opening.{opened_good}
use Rattle.joining.proofs.Join.{join_law}
use Rattle.joining.proofs.Sounding.{sound_end, sound_kind, sound_leads}
use Rattle.osf.specs.Facts.{Interpretation}
use Rattle.instructions.specs.Law.{most_turns, match_at}
use Rattle.osf.specs.Calls.{Lent, LetThrough, joined_if, enters, matches, joins}
use Rattle.osf.specs.Runs.{Case, Made, Call, enter as entered, match_rule, join as joined_call, ask_kind, ask_feature, LawfulCall, OfTerm, no_calls, after_call, run, with_rule}
use Rattle.osf.specs.Law.{IsModel, MostGeneral, ClashesExactly, JoinClashes, Law, LawOfRuns}
use Rattle.osf.proofs.Calls.{enters_by, matches_by, joins_by, ok_err}
use Rattle.osf.proofs.Clashing.{clashes, interprets}
use Rattle.osf.proofs.Pairs.{one_fact, paired, stands_paired, never_paired}
use Rattle.osf.proofs.Leaving.{Lawful, entry_leaves, rule_leaves, rule_performed, join_leaves}

module _ {K : Type 0} (m : Meaning K) (T : Type 0) where
  opened_lawful : (n f : ℕ) → Lawful m T (record { heap = opened m.widest n f; history = no_calls })
  opened_lawful n f =
      record {
        stands =
            record {
              good = opened_good m.widest n f;
              cells = λ x l. absurd (omega (arith, l));
              known = λ i l. absurd (omega (arith, l));
              own = λ i l. absurd (omega (arith, l));
              among = tt;
              true_of = tt;
            };
        tells = λ v.
            record {
              sound = record { one = λ i l. absurd (omega (arith, l)); kinds = λ i l. absurd (omega (arith, l)); leads = λ i f j l b e. absurd (omega (arith, l)) };
              values = λ x l. absurd (omega (arith, l));
            };
      }

  call_lawful : (call : Call K) (places : List ℕ) (l : Lent) (c : Case K) → LawfulCall call → Lawful m T c → Lawful m T (after_call m call places l c)
  unfolding after_call
  call_lawful (entered ss) places l c (n, term) k = entry_leaves m T c k n ss term l places
  call_lawful (match_rule ss i) places l c (n, term) k = rule_leaves m T c k n ss term l places i
  call_lawful (joined_call i j) places l c term k = join_leaves m T c k l i j
  call_lawful (ask_kind i) places l c term k = k
  call_lawful (ask_feature i f) places l c term k = k

  pub run_lawful : (n f : ℕ) (calls : List (Made K)) → AllByRecursion (λ c. LawfulCall c.call) calls → Lawful m T (run m n f calls)
  unfolding run
  run_lawful n f [] h = opened_lawful n f
  run_lawful n f (made ∷ calls) h = call_lawful made.call made.places made.lent (run m n f calls) h.0 (run_lawful n f calls h.1)

  module _ (c : Case K) (k : Lawful m T c) where
    is_model : IsModel m c
    is_model =
        record {
          true_of = k.stands.true_of;
          own = λ i l. ap (end m.widest c.heap) (k.stands.own i l);
          kinds = λ l i s u. rw (s, not_below i u) refl;
          features = λ l i f s u b. rw (s, not_below i u, lt-leb c.heap.features f b, lt-ltb f c.heap.features b) refl;
        }
      where
        not_below : (i : ℕ) → i < c.heap.used → nat_le c.heap.used i ≡ false
        not_below i u = lt-leb c.heap.used i u

    most_general : (v : Interpretation T m c.history.facts) → MostGeneral m T c v
    most_general v =
        let s = (k.tells v).sound in
        record {
          one_thing = λ i j a b e.
              sym (sound_end m v.structure _ c.heap k.stands.good s i a) ∙ ap (λ y. v.thing (c.history.variable_of y)) e ∙ sound_end m v.structure _ c.heap k.stands.good s j b;
          kinds = λ i a. sound_kind m v.structure _ c.heap k.stands.good s i a;
          features = λ i f j a b e. sound_leads m v.structure _ c.heap k.stands.good s i f j a b e;
        }

    matching : (l : Lent) (ss : List (Statement K)) (i : ℕ) (places : List ℕ) → OfTerm ss → LetThrough (matches m l ss i places c.heap).answer
        → ClashesExactly m T (λ s. c.history.facts ++ with_rule c ss i s) (matches m l ss i places c.heap).answer
    matching l ss i places (n, term) =
        matches_by m l c.heap (λ left. LetThrough left.answer → ClashesExactly m T (λ s. c.history.facts ++ with_rule c ss i s) left.answer) n ss term places (λ e q t. absurd (q t)) i
        (λ b law fit room long t. clashes m c i ss T k.stands k.tells b fit (match_at m ss (most_turns ss) c.heap i) places (rule_performed m T c k n ss term l places i b law fit room))

    joining : (l : Lent) (i j : ℕ) → LetThrough (joins m l i j c.heap).answer → JoinClashes m T (c.history.facts ++ one_fact c i j ∷ []) (joins m l i j c.heap).answer
    joining l i j =
        joins_by m l c.heap (λ left. LetThrough left.answer → JoinClashes m T (c.history.facts ++ one_fact c i j ∷ []) left.answer) i j (λ e q t. absurd (q t))
        (λ a b t. go a b (join m i j c.heap) (join_law T m c.heap i j k.stands.good a b).0)
      where
        go : i < c.heap.used → j < c.heap.used → (o : Option (Heap K)) → Outcome T m i j c.heap o → JoinClashes m T (c.history.facts ++ one_fact c i j ∷ []) (joined_if o c.heap).answer
        go a b (Some g) h =
            record {
              none = λ s q. ok_err q;
              only = λ none. absurd (none (interprets m (paired c i j g) (stands_paired m T c k.stands i j a b g h)));
            }
        go a b None h = record { none = λ s q. (same s q, never_paired m T c k.stands i j a b k.tells h); only = λ none. refl } where
          same : (s : ℕ) → ◌≡◌ {A = Result ℕ Refusal} (Err (Clash 0)) (Err (Clash s)) → s ≡ 0
          same s q = cc

    entering : (l : Lent) (ss : List (Statement K)) (places : List ℕ) (s : ℕ) → OfTerm ss → (enters m l ss places c.heap).answer ≡ Err (Clash s) → ⊥
    entering l ss places s (n, term) =
        enters_by m l c.heap (λ left. left.answer ≡ Err (Clash s) → ⊥) n ss term places (λ e q is. q (subst LetThrough (sym is) tt)) (λ law fit room long is. ok_err is)

    pub law : Law m T c
    law = record { model = is_model; most_general = most_general; matching = matching; joining = joining; entering = entering }

  pub law_of_runs : LawOfRuns m T
  law_of_runs n f calls h = law (run m n f calls) (run_lawful n f calls h)
