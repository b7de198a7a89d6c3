-- A line breaks its grammar at one place, and a lawful line at none.
use Rattle.std.proofs.Common.{◌≡◌, ℕ, ◌+◌, ◌<◌, ◌≤◌, List, ◌++◌, take, drop, sym, ap, ◌∙◌, subst, inl, inr, append_assoc, arith}
use Rattle.std.proofs.lemmas.List.{take-append-drop, take-take}
use Rattle.std.proofs.lemmas.Bool.{cases_order}
use Rattle.refusals.specs.Places.{GoesOn, Breaks}

module _ (Lawful : List ℕ → Type 0) (line : List ℕ) where
  -- what a front of a front goes on with
  front_goes_on : (p q : ℕ) → p ≤ q → GoesOn Lawful (take q line) → GoesOn Lawful (take p line)
  front_goes_on p q h g =
      let (rest, l) = g in
      let e : take q line ++ rest ≡ take p line ++ (drop p (take q line) ++ rest) =
      ap (λ x. x ++ rest) (sym (take-append-drop p (take q line))) ∙ append_assoc (take p (take q line)) (drop p (take q line)) rest
      ∙ ap (λ x. x ++ (drop p (take q line) ++ rest)) (take-take p q line h) in
      (drop p (take q line) ++ rest, subst Lawful e l)

  pub breaks-apart : (p : ℕ) → Breaks Lawful line p → Lawful line → ⊥
  breaks-apart p b l =
      elim b.1 [
        | inl h ↦ h.1 (drop (p + 1) line, subst Lawful (sym (take-append-drop (p + 1) line)) l)
        | inr h ↦ h.1 l
      ]

  breaks-order : (p q : ℕ) → Breaks Lawful line p → Breaks Lawful line q → p < q → ⊥
  breaks-order p q b d h =
      elim b.1 [
        | inl s ↦ s.1 (front_goes_on (p + 1) q (omega arith) d.0)
        | inr s ↦ elim d.1 [ inl t ↦ omega (arith, s.0, t.0) | inr t ↦ omega (arith, s.0, t.0) ]
      ]

  pub breaks-same : (p q : ℕ) → Breaks Lawful line p → Breaks Lawful line q → p ≡ q
  breaks-same p q b d =
      elim (cases_order p q) [
        | inl h ↦ h
        | inr o ↦ elim o [ inl h ↦ absurd (breaks-order p q b d h) | inr h ↦ absurd (breaks-order q p d b h) ]
      ]
