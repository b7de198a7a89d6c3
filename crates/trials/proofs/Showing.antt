-- Trials shown one by one.
use Rattle.std.proofs.Common.{◌≡◌, ℕ, ◌+◌, ◌<◌, ◌≤◌, List, [], ◌∷◌, ◌++◌, length, get_or, drop, sym, ap, ◌∙◌, append_assoc, append-nil}
use Rattle.std.proofs.lemmas.List.{drop_all}
use Rattle.orders.specs.Texts.{Texts}
use Rattle.compiler.proofs.Onward.{left_more}
use Rattle.trials.specs.declared.trial.Trial.{Trial}
use Rattle.trials.specs.Shown.{trial_shown, trials_shown}

module _ {K : Type 0} (m : Texts K) (trials : List (Trial K)) (i : ℕ) where
  pub shown_more : (trial : Trial K) (before after whole : List ℕ) → i < length trials → trial ≡ get_or trials i trial → after ≡ before ++ (trial_shown m trial ++ 10 ∷ [])
      → before ++ trials_shown m (drop i trials) ≡ whole → after ++ trials_shown m (drop (i + 1) trials) ≡ whole
  unfolding trials_shown
  shown_more trial before after whole l here is h =
      let rest = trials_shown m (drop (i + 1) trials) in
      ap (λ s. s ++ rest) is
      ∙ append_assoc before (trial_shown m trial ++ 10 ∷ []) rest
      ∙ ap (λ s. before ++ s) (append_assoc (trial_shown m trial) (10 ∷ []) rest)
      ∙ ap (λ ts. before ++ trials_shown m ts) (sym (left_more trials trial i l here))
      ∙ h

  pub shown_last : (before whole : List ℕ) → length trials ≤ i → before ++ trials_shown m (drop i trials) ≡ whole → before ≡ whole
  unfolding trials_shown
  shown_last before whole l h = sym (append-nil before) ∙ ap (λ ts. before ++ trials_shown m ts) (sym (drop_all i trials l)) ∙ h
