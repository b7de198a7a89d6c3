-- The tests where descriptions end: those of the descriptions in the one that is written are passed; its own goes back to reading.
use Rattle.std.proofs.Common.{◌≡◌, ℕ, zero, suc, ◌+◌, ◌<◌, ◌≤◌, List, [], ◌∷◌, ◌++◌, length, drop, Result, refl, ap, ◌∙◌, inl, inr, arith}
use Rattle.std.proofs.lemmas.Bool.{cond-true, cond-false, lt-ltb, le-ltb, cases_lt}
use Rattle.orders.specs.Meaning.{Meaning}
use Rattle.performing.specs.Performing.{State}
use Rattle.instructions.specs.declared.instruction.Instruction.{Instruction}
use Rattle.instructions.specs.declared.instruction.Instruction.TheVariants.{WriteTest}
use Rattle.instructions.specs.Codes.{closes}
use Rattle.instructions.specs.Steps.{run}
use Rattle.instructions.proofs.Fetching.{past_first}
use Rattle.instructions.proofs.Running.{reading, writing, test_passed, test_back}

pub closes_more : (d e label : ℕ) → e < suc d → closes (suc d) e label ≡ WriteTest (suc d) label ∷ closes d e label
unfolding closes
closes_more d e label l = cond-true _ _ [] (lt-ltb e (suc d) l)

pub closes_none : (d e label : ℕ) → d ≤ e → closes d e label ≡ []
unfolding closes
closes_none zero e label l = refl
closes_none (suc d) e label l = cond-false _ (WriteTest (suc d) label ∷ closes d e label) [] (le-ltb e (suc d) l)

module _ {K : Type 0} (m : Meaning K) (ks : List K) (reads writes : List Instruction) (depth e label : ℕ) (s : State K) (rest : List Instruction) where
  abbrev running : ℕ → ℕ → Result (State K) ℕ
  running n at = run m ks reads writes n (writing depth s at)

  none_passed : (d n at : ℕ) → closes d e label ≡ [] → running (length (closes d e label) + n) at ≡ running n (at + length (closes d e label))
  none_passed d n at c =
      let none : length (closes d e label) ≡ 0 = ap length c in
      ap (λ k. running k at) (omega arith) ∙ ap (running n) (omega arith)

  -- writing goes on with a statement whose subject is as deep, or deeper
  pub all_passed : (d n at : ℕ) → depth ≤ e → drop at writes ≡ closes d e label ++ rest →
      running (length (closes d e label) + n) at ≡ running n (at + length (closes d e label))
  all_passed zero n at l w = none_passed zero n at (closes_none zero e label (omega arith))
  all_passed (suc d) n at l w =
      elim (cases_lt e (suc d)) [
        | inl lt ↦
            let c = closes_more d e label lt in
            let w : drop at writes ≡ WriteTest (suc d) label ∷ (closes d e label ++ rest) = w ∙ ap (λ is. is ++ rest) c in
            let more : length (closes (suc d) e label) ≡ suc (length (closes d e label)) = ap length c in
            ap (λ k. running k at) (omega arith)
            ∙ test_passed m ks reads writes (length (closes d e label) + n) depth (suc d) label s at _ w (omega arith)
            ∙ all_passed d n (suc at) l (past_first writes at _ _ w)
            ∙ ap (running n) (omega arith)
        | inr ge ↦ none_passed (suc d) n at (closes_none (suc d) e label ge)
      ]

  -- reading goes on at any other, with the turns that are left
  abbrev GoesBack : List Instruction → ℕ → ℕ → Type 0
  GoesBack tests n at = (k : ℕ) × (n ≤ k + length tests) × (running n at ≡ run m ks reads writes k (reading s label))

  pub gone_back : (d n at : ℕ) → e < depth → depth ≤ d → drop at writes ≡ closes d e label ++ rest → length (closes d e label) ≤ n →
      GoesBack (closes d e label) n at
  gone_back zero n at l le w fits = absurd (omega arith)
  gone_back (suc d) zero at l le w fits =
      let more : length (closes (suc d) e label) ≡ suc (length (closes d e label)) = ap length (closes_more d e label (omega arith)) in
      absurd (omega arith)
  gone_back (suc d) (suc n) at l le w fits =
      let c = closes_more d e label (omega arith) in
      let w : drop at writes ≡ WriteTest (suc d) label ∷ (closes d e label ++ rest) = w ∙ ap (λ is. is ++ rest) c in
      let more : length (closes (suc d) e label) ≡ suc (length (closes d e label)) = ap length c in
      elim (cases_lt depth (suc d)) [
        | inl deeper ↦
            let (k, left, e) = gone_back d n (suc at) l (omega arith) (past_first writes at _ _ w) (omega arith) in
            (k, omega arith, test_passed m ks reads writes n depth (suc d) label s at _ w deeper ∙ e)
        | inr here ↦ (n, omega arith, test_back m ks reads writes n depth (suc d) label s at _ w here)
      ]
