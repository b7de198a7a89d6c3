-- Outcomes noted one by one.
use Rattle.std.proofs.Common.{◌≡◌, ℕ, suc, ◌+◌, ◌-◌, ◌<◌, ◌≤◌, List, [], ◌∷◌, ◌++◌, map, length, get_or, drop, subst, sym, ap, ◌∙◌, append_assoc, append-nil, replicate, arith}
use Rattle.std.proofs.lemmas.List.{drop_all}
use Rattle.refusals.specs.declared.Refusal.{Refusal}
use Rattle.orders.specs.Meaning.{Meaning}
use Rattle.joining.specs.Heap.{Heap}
use Rattle.compiler.specs.declared.codes.rule.Rule.{Rule}
use Rattle.compiler.specs.Rules.{statements_of}
use Rattle.compiler.proofs.Onward.{left_more}
use Rattle.osf.specs.Calls.{Left}
use Rattle.trials.specs.declared.trial.Trial.{Trial}
use Rattle.trials.specs.declared.trial.Outcome.{Outcome}
use Rattle.trials.specs.declared.trial.Outcome.TheVariants.{Refused}
use Rattle.trials.specs.declared.memory.Memory.{Memory}
use Rattle.trials.specs.Trials.{numbered, tried, outcome_of, outcomes_at}
use Rattle.trials.specs.Memory.{heap_in, places_in, matching, Holds}

module _ {K : Type 0} (entry : ℕ) where
  abbrev pub trial : ℕ → Outcome K → Trial K
  trial rule o = record { entry = entry; rule = rule; outcome = o }

  -- one trial more is noted
  note_more : (before after : List (Trial K)) (rule : ℕ) (o : Outcome K) (os all : List (Outcome K)) → all ≡ o ∷ os → after ≡ before ++ trial rule o ∷ []
      → after ++ numbered entry (rule + 1) os ≡ before ++ numbered entry rule all
  unfolding numbered
  note_more before after rule o os all e is =
      ap (λ ts. ts ++ numbered entry (rule + 1) os) is
      ∙ append_assoc before (trial rule o ∷ []) (numbered entry (rule + 1) os)
      ∙ ap (λ os. before ++ numbered entry rule os) (sym e)

  -- none is left
  note_none : (before : List (Trial K)) (rule : ℕ) → before ≡ before ++ numbered entry rule []
  unfolding numbered
  note_none before rule = sym (append-nil before)

module _ {K : Type 0} (entry : ℕ) (e : Refusal) (rules i : ℕ) where
  -- as many refusals
  abbrev refusals : ℕ → List (Outcome K)
  refusals n = replicate n (Refused e)

  pub refused_more : (start before after : List (Trial K)) → i < rules → after ≡ before ++ trial entry (i + 1) (Refused e) ∷ []
      → before ++ numbered entry (i + 1) (refusals (rules - i)) ≡ start ++ numbered entry 1 (refusals rules)
      → after ++ numbered entry (i + 1 + 1) (refusals (rules - (i + 1))) ≡ start ++ numbered entry 1 (refusals rules)
  refused_more start before after l is h =
      let one : rules - i ≡ suc (rules - (i + 1)) = omega arith in
      note_more entry before after (i + 1) (Refused e) (refusals (rules - (i + 1))) (refusals (rules - i)) (ap refusals one) is ∙ h

  pub refused_last : (start before : List (Trial K)) → rules ≤ i → before ++ numbered entry (i + 1) (refusals (rules - i)) ≡ start ++ numbered entry 1 (refusals rules)
      → before ≡ start ++ numbered entry 1 (refusals rules)
  refused_last start before l h =
      let none : 0 ≡ rules - i = omega arith in
      note_none entry before (i + 1) ∙ ap (λ n. before ++ numbered entry (i + 1) (refusals n)) none ∙ h

module _ {K : Type 0} (m : Meaning K) (features entry root : ℕ) (rules : List (Rule K)) (i : ℕ) where
  abbrev come : List ℕ → Heap K → ℕ → List (Outcome K)
  come places h k = outcomes_at m features root places h (map statements_of (drop k rules))

  -- all that is noted then, where the first rule is tried on the case in this memory
  abbrev pub whole : Memory K → List (Trial K) → List (Trial K)
  whole first start = start ++ numbered entry 1 (outcomes_at m features root (places_in first) (heap_in first) (map statements_of rules))

  come_more : (places : List ℕ) (h : Heap K) (rule : Rule K) → i < length rules → rule ≡ get_or rules i rule
      → come places h i ≡ (let left = tried m features (statements_of rule) root places h in outcome_of m features root left ∷ come left.places left.heap (i + 1))
  unfolding outcomes_at
  come_more places h rule l here = ap (λ rs. outcomes_at m features root places h (map statements_of rs)) (left_more rules rule i l here)

  come_none : (places : List ℕ) (h : Heap K) → length rules ≤ i → come places h i ≡ []
  unfolding outcomes_at
  come_none places h l = ap (λ rs. outcomes_at m features root places h (map statements_of rs)) (drop_all i rules l)

  pub tried_more : (first b c : Memory K) → b.features ≡ features → (start before after : List (Trial K)) (rule : Rule K) (o : Outcome K) → i < length rules → rule ≡ get_or rules i rule
      → o ≡ outcome_of m b.features root (matching m b (statements_of rule) root)
      → Holds m (matching m b (statements_of rule) root) c
      → after ≡ before ++ trial entry (i + 1) o ∷ []
      → before ++ numbered entry (i + 1) (come (places_in b) (heap_in b) i) ≡ whole first start
      → after ++ numbered entry (i + 1 + 1) (come (places_in c) (heap_in c) (i + 1)) ≡ whole first start
  tried_more first b c same start before after rule o l here told left is h =
      let by : ℕ → Left K = λ f. tried m f (statements_of rule) root (places_in b) (heap_in b) in
      let holds = subst (λ f. Holds m (by f) c) same left in
      note_more entry before after (i + 1) o (come (places_in c) (heap_in c) (i + 1)) (come (places_in b) (heap_in b) i)
      (
      come_more (places_in b) (heap_in b) rule l here
      ∙ ap (λ p. p ∷ come (by features).places (by features).heap (i + 1)) (sym (told ∙ ap (λ f. outcome_of m f root (by f)) same))
      ∙ ap (λ ps. o ∷ come ps (by features).heap (i + 1)) (sym holds.places_are)
      ∙ ap (λ h. o ∷ come (places_in c) h (i + 1)) (sym holds.heap_is)
      )
      is
      ∙ h

  pub tried_last : (first b : Memory K) (start before : List (Trial K)) → length rules ≤ i
      → before ++ numbered entry (i + 1) (come (places_in b) (heap_in b) i) ≡ whole first start → before ≡ whole first start
  tried_last first b start before l h =
      note_none entry before (i + 1) ∙ ap (λ os. before ++ numbered entry (i + 1) os) (sym (come_none (places_in b) (heap_in b) l)) ∙ h
