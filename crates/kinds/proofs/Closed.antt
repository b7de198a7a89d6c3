-- Closing has one outcome.
use Rattle.std.proofs.Common.{◌≡◌, ℕ, List, [], ◌∷◌, Ok, Err, Result, sym, refl, ap, ◌∙◌, ap₂, inl, inr}
use Rattle.std.proofs.lemmas.Bool.{cases_order}
use Rattle.refusals.specs.declared.Refusal.{Refusal}
use Rattle.refusals.proofs.Known.{same_row}
use Rattle.declarations.specs.Declarations.{Declaration, First}
use Rattle.kinds.specs.Lists.{Closing, Closes}

-- of two first pairs each is the other
same_first : (ds : List Declaration) (a b c d : ℕ) → First ds a b → First ds c d → (a ≡ c) × (b ≡ d)
same_first ds a b c d f g =
    elim (cases_order a c) [
      | inl e ↦
          elim (cases_order b d) [
            | inl h ↦ (e, h)
            | inr o ↦ elim o [
              | inl h ↦ absurd (g.first a b f.order (inr (e, h)) f.apart)
              | inr h ↦ absurd (f.first c d g.order (inr (sym e, h)) g.apart)
            ]
          ]
      | inr o ↦ elim o [
        | inl h ↦ absurd (g.first a b f.order (inl h) f.apart)
        | inr h ↦ absurd (f.first c d g.order (inl h) g.apart)
      ]
    ]

-- whatever closing answers, it answers nothing else
pub one_outcome : (ds : List Declaration) (before after other : Closing) (r s : Result (Unit {0}) Refusal) → Closes ds before after r → Closes ds before other s → s ≡ r
one_outcome ds before after other (Ok u) (Ok v) h g = refl
one_outcome ds before after other (Ok u) (Err e) h g = let (a, b, f, is) = g.0 in absurd (h.1 a b f.apart)
one_outcome ds before after other (Err e) (Ok u) h g = let (a, b, f, is) = h.0 in absurd (g.1 a b f.apart)
one_outcome ds before after other (Err e) (Err f) h g =
    let (a, b, k, is) = h.0 in
    let (c, d, l, at) = g.0 in
    let same = same_first ds a b c d k l in
    ap Err (same_row e f (at ∙ ap₂ (λ x y. record { number = 5; values = x ∷ y ∷ [] }) (sym same.0) (sym same.1) ∙ sym is))
