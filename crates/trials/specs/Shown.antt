-- The text of a trial: its entry, its rule, and what came of it, as `1 2 yes debit/-4000..-4000`, `1 1 no 1` and `3 7 refused 9`.
use Rattle.std.specs.Prelude.{ℕ, List, [], ◌∷◌, ◌++◌, codes, decimal}
use Rattle.refusals.specs.Table.{row}
use Rattle.orders.specs.Texts.{Texts}
use Rattle.showing.specs.Shown.{kind_shown}
use Rattle.trials.specs.declared.trial.Trial.{Trial}
use Rattle.trials.specs.declared.trial.Outcome.{Outcome}
use Rattle.trials.specs.declared.trial.Outcome.TheVariants.{Yes, No, Refused}

module _ {K : Type 0} (m : Texts K) where
  -- a refusal by its number alone
  abbrev pub outcome_shown : Outcome K → List ℕ
  outcome_shown (Yes k) = codes "yes " ++ kind_shown (m.text k)
  outcome_shown (No s) = codes "no " ++ decimal s
  outcome_shown (Refused e) = codes "refused " ++ decimal (row e).number

  abbrev pub trial_shown : Trial K → List ℕ
  trial_shown t = decimal t.entry ++ (codes " " ++ (decimal t.rule ++ (codes " " ++ outcome_shown t.outcome)))

  -- a line feed behind each
  unfoldable pub trials_shown : List (Trial K) → List ℕ
  trials_shown [] = []
  trials_shown (t ∷ ts) = trial_shown t ++ 10 ∷ trials_shown ts
