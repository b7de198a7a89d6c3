-- The output line for what narrowing answers.
--
-- `by_dd/-500..0 returned/-900..-100` gives `by_dd/-500..0 and returned/-900..-100: returned_dd/-500..-100`,
-- `credit/1..9 debit/1..9` gives `credit/1..9 and debit/1..9: nothing can be both`, and a refused line gives as `refused 4 12`.
use Rattle.std.specs.Prelude.{ℕ, List, ◌++◌, Some, None, Ok, Err, codes, Option, Result}
use Rattle.orders.specs.Texts.{Texts}
use Rattle.refusals.specs.declared.Refusal.{Refusal}
use Rattle.showing.specs.Shown.{kind_shown, refusal_shown}
use Rattle.narrowing.specs.declared.narrow.Narrowed.{Narrowed}

abbrev pub common_shown : {K : Type 0} → Texts K → Option K → List ℕ
common_shown m (Some k) = kind_shown (m.text k)
common_shown m None = codes "nothing can be both"

abbrev pub narrowed_shown : {K : Type 0} → Texts K → Narrowed K → List ℕ
narrowed_shown m n = kind_shown (m.text n.first) ++ codes " and " ++ kind_shown (m.text n.second) ++ codes ": " ++ common_shown m n.common

abbrev pub shown : {K : Type 0} → Texts K → Result (Narrowed K) Refusal → List ℕ
shown m (Ok n) = narrowed_shown m n
shown m (Err e) = refusal_shown e
