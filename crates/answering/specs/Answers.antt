-- The text that answers a file: what comes of every rule on every entry, or the file's refusal.
--
-- `1 1 no 1` and `1 2 yes debit/-4000..-4000`, a line feed behind each; `file refused 2 17`; `file refused 5 1 2`.
use Rattle.std.specs.Prelude.{◌≡◌, ℕ, List, [], ◌∷◌, ◌++◌, map, length, Ok, Err, Result, codes}
use Rattle.refusals.specs.declared.Refusal.{Refusal}
use Rattle.refusals.specs.Table.{row, printed}
use Rattle.orders.specs.Meaning.{Meaning}
use Rattle.orders.specs.Texts.{Texts}
use Rattle.grammar.specs.Lawful.{statements}
use Rattle.kinds.specs.Lists.{Closing}
use Rattle.files.specs.Files.{Contents, File}
use Rattle.trials.specs.Shown.{trials_shown}
use Rattle.trials.specs.Trials.{trials}

module _ {K : Type 0} (meaning : Closing → Meaning K) (texts : Closing → Texts K) where
  abbrev pub answer : Result (Contents K) Refusal → List ℕ
  answer (Ok c) = trials_shown (texts c.list) (trials (meaning c.list) (length c.features) (map statements c.entries) (map statements c.rules))
  answer (Err e) = codes "file refused " ++ (printed (row e) ++ 10 ∷ [])

  -- the text answers what the file says, or its refusal
  abbrev pub Answers : List ℕ → List ℕ → Type 0
  Answers file text = (r : Result (Contents K) Refusal) × File texts file r × (text ≡ answer r)
