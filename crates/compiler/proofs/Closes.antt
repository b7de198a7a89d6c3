-- The tests where descriptions end, one by one.
use Rattle.std.proofs.Common.{◌≡◌, ℕ, zero, suc, ◌+◌, ◌-◌, ◌<◌, ◌≤◌, List, [], ◌∷◌, ◌++◌, length, append_assoc, append-nil, length-append, sym, ap, ◌∙◌, inl, inr, arith}
use Rattle.std.proofs.lemmas.Bool.{cases_lt}
use Rattle.instructions.specs.declared.instruction.Instruction.{Instruction}
use Rattle.instructions.specs.declared.instruction.Instruction.TheVariants.{WriteTest}
use Rattle.instructions.specs.Codes.{closes}
use Rattle.instructions.proofs.Closing.{closes_more, closes_none}

-- the deepest of them
closes_deepest : (d n e label : ℕ) → d ≡ n + 1 → e ≤ n → closes d e label ≡ WriteTest (n + 1) label ∷ closes n e label
closes_deepest d n e label q l =
    ap (λ k. closes k e label) (omega arith) ∙ closes_more n e label (omega arith) ∙ ap (λ k. WriteTest k label ∷ closes n e label) (omega arith)

-- one for each description that ends
pub closes_length : (d e label : ℕ) → e ≤ d → length (closes d e label) + e ≡ d
closes_length zero e label l = omega (arith, ap length (closes_none zero e label (omega arith)))
closes_length (suc d) e label l =
    elim (cases_lt e (suc d)) [
      | inl lt ↦ omega (arith, ap length (closes_more d e label lt), closes_length d e label (omega arith))
      | inr ge ↦ omega (arith, ap length (closes_none (suc d) e label ge))
    ]

-- writing them in turn, from depth d down: what is there and what is to come make up the whole
module _ (now first : List Instruction) (d from e label : ℕ) where
  pub close_fits : e < d → now ++ closes d e label ≡ first ++ closes from e label → length now < length first + length (closes from e label)
  close_fits l h =
      omega (
        arith,
        ap length h,
        length-append now (closes d e label),
        length-append first (closes from e label),
        ap length (closes_deepest d (d - 1) e label (omega arith) (omega arith)),
      )

  pub close_last : d ≤ e → now ++ closes d e label ≡ first ++ closes from e label → now ≡ first ++ closes from e label
  close_last l h = sym (append-nil now) ∙ sym (ap (λ is. now ++ is) (closes_none d e label l)) ∙ h

pub close_more : (now first new : List Instruction) (d from e label : ℕ) → e < d → new ≡ now ++ WriteTest (d - 1 + 1) label ∷ [] →
    now ++ closes d e label ≡ first ++ closes from e label → new ++ closes (d - 1) e label ≡ first ++ closes from e label
close_more now first new d from e label l p h =
    ap (λ is. is ++ closes (d - 1) e label) p
    ∙ append_assoc now (WriteTest (d - 1 + 1) label ∷ []) (closes (d - 1) e label)
    ∙ sym (ap (λ is. now ++ is) (closes_deepest d (d - 1) e label (omega arith) (omega arith))) ∙ h
