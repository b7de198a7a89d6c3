-- How many trials there are: one for each entry and rule.
use Rattle.std.proofs.Common.{◌≡◌, ℕ, suc, ◌+◌, ◌*◌, List, [], ◌∷◌, map, length, length-append, IfOk, Ok, Err, Result, refl, ap, ◌∙◌, arith}
use Rattle.std.proofs.lemmas.List.{length-replicate, length-map}
use Rattle.refusals.specs.declared.Refusal.{Refusal}
use Rattle.orders.specs.Meaning.{Meaning}
use Rattle.grammar.specs.declared.statement.Statement.{Statement}
use Rattle.joining.specs.Heap.{Heap}
use Rattle.osf.specs.Calls.{Left, opens}
use Rattle.terms.specs.declared.term.Term.{Term}
use Rattle.compiler.specs.Views.{statements_in}
use Rattle.trials.specs.declared.trial.Trial.{Trial}
use Rattle.trials.specs.declared.trial.Outcome.{Outcome}
use Rattle.trials.specs.declared.trial.Outcome.TheVariants.{Refused}
use Rattle.trials.specs.Trials.{lent_for, numbered, tried, outcomes_at, outcomes_after, outcomes_in, outcomes, trials_from, trials}

module _ {K : Type 0} where
  numbered_length : (entry rule : ℕ) (os : List (Outcome K)) → length (numbered entry rule os) ≡ length os
  unfolding numbered
  numbered_length entry rule [] = refl
  numbered_length entry rule (o ∷ os) = ap suc (numbered_length entry (rule + 1) os)

module _ {K : Type 0} (m : Meaning K) (features : ℕ) where
  at_length : (root : ℕ) (places : List ℕ) (h : Heap K) (rules : List (List (Statement K))) → length (outcomes_at m features root places h rules) ≡ length rules
  unfolding outcomes_at
  at_length root places h [] = refl
  at_length root places h (rule ∷ rules) =
      let left = tried m features rule root places h in ap suc (at_length root left.places left.heap rules)

  after_length : (r : Result ℕ Refusal) (left : Left K) (rules : List (List (Statement K))) → length (outcomes_after m features r left rules) ≡ length rules
  after_length (Ok n) left rules = at_length _ _ _ rules
  after_length (Err e) left rules = length-replicate {A = Outcome K} (length rules) (Refused e)

  in_length : (opening : Result (Heap K) Refusal) (entry : List (Statement K)) (rules : List (List (Statement K))) → length (outcomes_in m features opening entry rules) ≡ length rules
  in_length (Ok h) entry rules = after_length _ _ rules
  in_length (Err e) entry rules = length-replicate {A = Outcome K} (length rules) (Refused e)

  pub entry_length : (n : ℕ) (entry : List (Statement K)) (rules : List (List (Statement K))) → length (numbered n 1 (outcomes m features entry rules)) ≡ length rules
  entry_length n entry rules =
      numbered_length n 1 (outcomes m features entry rules) ∙ in_length (opens m.widest 256 features (lent_for features)) entry rules

  trials_from_length : (n : ℕ) (entries rules : List (List (Statement K))) → length (trials_from m features n entries rules) ≡ length entries * length rules
  unfolding trials_from
  trials_from_length n [] rules = omega arith
  trials_from_length n (entry ∷ entries) rules =
      omega (
        arith,
        length-append (numbered n 1 (outcomes m features entry rules)) (trials_from m features (n + 1) entries rules),
        entry_length n entry rules,
        trials_from_length (n + 1) entries rules,
      )

  module _ (entries rules : List (Term K)) where
    counted : (ts : List (Trial K)) → ts ≡ trials m features (map statements_in entries) (map statements_in rules) → length ts ≡ length entries * length rules
    counted ts e =
        ap length e
        ∙ trials_from_length 1 (map statements_in entries) (map statements_in rules)
        ∙ ap (λ n. n * length (map statements_in rules)) (length-map entries statements_in)
        ∙ ap (λ n. length entries * n) (length-map rules statements_in)

    pub counted_if : {V E : Type 0} (items : V → List (Trial K)) (r : Result V E) → IfOk r (λ v. items v ≡ trials m features (map statements_in entries) (map statements_in rules))
        → IfOk r (λ v. length (items v) ≡ length entries * length rules)
    counted_if items (Ok v) e = counted (items v) e
    counted_if items (Err e) h = h
