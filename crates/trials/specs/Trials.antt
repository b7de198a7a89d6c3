-- What trying every rule on every entry gives. Entries and rules are given by their statements, and have their numbers from 1.
use Rattle.std.specs.Prelude.{ℕ, ◌+◌, ◌*◌, List, [], ◌∷◌, ◌++◌, length, replicate, Ok, Err, Result, slice_index}
use Rattle.refusals.specs.declared.Refusal.{Refusal}
use Rattle.refusals.specs.declared.Refusal.TheVariants.{Clash}
use Rattle.orders.specs.Meaning.{Meaning}
use Rattle.grammar.specs.declared.statement.Statement.{Statement}
use Rattle.joining.specs.Heap.{Heap}
use Rattle.osf.specs.Calls.{Lent, Left, opens, enters, matches, kind_asked}
use Rattle.trials.specs.declared.trial.Trial.{Trial}
use Rattle.trials.specs.declared.trial.Outcome.{Outcome}
use Rattle.trials.specs.declared.trial.Outcome.TheVariants.{Yes, No, Refused}

-- how much memory a case of 256 cells and so many features is lent: no more than it needs
abbrev pub lent_for : ℕ → Lent
lent_for features =
    record {
      cells = 256;
      slots = 256 * features;
      pending = 256 * features + 1;
      spare_cells = 256;
      spare_slots = 256 * features;
    }

module _ {K : Type 0} where
  -- a clash is told by its statement, any other refusal as it is
  abbrev pub refused_with : Refusal → Outcome K
  refused_with (Clash s) = No s
  refused_with e = Refused e

  -- what comes of a rule, by the answers to the match and to the question that follows it: which kind is at the root's end
  abbrev pub told : Result ℕ Refusal → Result K Refusal → Outcome K
  told (Ok n) (Ok k) = Yes k
  told (Ok n) (Err e) = Refused e
  told (Err e) asked = refused_with e

  -- what comes of the rules from this number on, as trials of an entry
  unfoldable pub numbered : ℕ → ℕ → List (Outcome K) → List (Trial K)
  numbered entry rule [] = []
  numbered entry rule (o ∷ os) = record { entry = entry; rule = rule; outcome = o } ∷ numbered entry (rule + 1) os

  -- each of the rules is refused
  abbrev pub all_refused : Refusal → List (List (Statement K)) → List (Outcome K)
  all_refused e rules = replicate (length rules) (Refused e)

module _ {K : Type 0} (m : Meaning K) (features : ℕ) where
  -- what a match of the rule at the root answers and leaves
  unfoldable pub tried : List (Statement K) → ℕ → List ℕ → Heap K → Left K
  tried rule root places h = matches m (lent_for features) rule root places h

  -- the kind at a root's end
  unfoldable pub asked : ℕ → Heap K → Result K Refusal
  asked root h = kind_asked m (lent_for features) root h

  abbrev pub outcome_of : ℕ → Left K → Outcome K
  outcome_of root left = told left.answer (asked root left.heap)

  -- the rules in order at a root, each on what those before it have left
  unfoldable pub outcomes_at : ℕ → List ℕ → Heap K → List (List (Statement K)) → List (Outcome K)
  outcomes_at root places h [] = []
  outcomes_at root places h (rule ∷ rules) =
      let left = tried rule root places h in outcome_of root left ∷ outcomes_at root left.places left.heap rules

  -- the rules on what entering has left: the root's cell is the first in the place list
  abbrev pub outcomes_after : Result ℕ Refusal → Left K → List (List (Statement K)) → List (Outcome K)
  outcomes_after (Ok n) left rules = outcomes_at (slice_index left.places 0) left.places left.heap rules
  outcomes_after (Err e) left rules = all_refused e rules

  -- the entry is entered in the heap that was opened, with a list of 200 places
  abbrev pub outcomes_in : Result (Heap K) Refusal → List (Statement K) → List (List (Statement K)) → List (Outcome K)
  outcomes_in (Ok h) entry rules =
      let left = enters m (lent_for features) entry (replicate 200 0) h in outcomes_after left.answer left rules
  outcomes_in (Err e) entry rules = all_refused e rules

  -- the rules on an entry, which has a case of its own
  abbrev pub outcomes : List (Statement K) → List (List (Statement K)) → List (Outcome K)
  outcomes entry rules = outcomes_in (opens m.widest 256 features (lent_for features)) entry rules

  -- the rules on the entries, which have the numbers from n on
  unfoldable pub trials_from : ℕ → List (List (Statement K)) → List (List (Statement K)) → List (Trial K)
  trials_from n [] rules = []
  trials_from n (entry ∷ entries) rules = numbered n 1 (outcomes entry rules) ++ trials_from (n + 1) entries rules

  abbrev pub trials : List (List (Statement K)) → List (List (Statement K)) → List (Trial K)
  trials entries rules = trials_from 1 entries rules
