-- A line has one answer: its texts, the place where it breaks and its refusal are fixed.
use Rattle.std.proofs.Common.{◌≡◌, ℕ, ◌+◌, List, length, Some, Ok, Err, Result, sym, refl, ap, ◌∙◌, inl, inr}
use Rattle.orders.specs.Meaning.{Meaning}
use Rattle.orders.specs.Texts.{Texts}
use Rattle.refusals.specs.declared.Refusal.{Refusal}
use Rattle.refusals.proofs.Broken.{breaks-apart, breaks-same}
use Rattle.refusals.proofs.Known.{same_refusal}
use Rattle.narrowing.specs.declared.narrow.Narrowed.{Narrowed}
use Rattle.narrowing.specs.Lines.{Line}
use Rattle.narrowing.specs.Narrowing.{WrongText, Refuses, Answers, Narrows}
use Rattle.narrowing.proofs.Blanks.{same_first, same_second}

module _ {K : Type 0} (o : Meaning K) (m : Texts K) (line : List ℕ) where
  -- a text that no kind has, and a line whose texts are kinds'
  wrong-text : (l : Line line) (p : ℕ) → WrongText m line l p → (n : Narrowed K) → Answers o m line n → ⊥
  wrong-text l p w n a =
      elim w [
        | inl h ↦ h.0 n.first (a.first ∙ ap Some (same_first line a.words l))
        | inr h ↦ h.1 n.second (a.second ∙ ap Some (same_second line a.words l))
      ]

  pub refused_not_answered : (e : Refusal) (n : Narrowed K) → Refuses m line e → Answers o m line n → ⊥
  refused_not_answered e n r a =
      elim r [
        | inl u ↦ elim u [ inl h ↦ a.within h.0 | inr h ↦ breaks-apart Line line h.1.0 h.1.1 a.words ]
        | inr h ↦ wrong-text h.1.0 h.1.1 h.1.2 n a
      ]

  same_place : (l k : Line line) (p q : ℕ) → WrongText m line l p → WrongText m line k q → p ≡ q
  same_place l k p q w v =
      elim w [
        | inl h ↦
            elim v [
              | inl g ↦ h.1 ∙ sym g.1
              | inr g ↦ absurd (h.0 g.0.0 (g.0.1 ∙ ap Some (same_first line k l)))
            ]
        | inr h ↦
            elim v [
              | inl g ↦ absurd (g.0 h.0.0 (h.0.1 ∙ ap Some (same_first line l k)))
              | inr g ↦ h.2 ∙ ap (λ t. length t + 1) (same_first line l k) ∙ sym g.2
            ]
      ]

  pub same_refused : (e f : Refusal) → Refuses m line e → Refuses m line f → f ≡ e
  same_refused e f r s =
      elim r [
        | inl u ↦ elim u [
          | inl h ↦ elim s [
            | inl v ↦ elim v [
              | inl g ↦ same_refusal e f 1 0 0 h.1 g.1 refl
              | inr g ↦ absurd (g.0 h.0)
            ]
            | inr g ↦ absurd (g.0 h.0)
          ]
          | inr h ↦ elim s [
            | inl v ↦ elim v [
              | inl g ↦ absurd (h.0 g.0)
              | inr g ↦ same_refusal e f 2 h.1.0 g.1.0 h.1.2 g.1.2 (breaks-same Line line h.1.0 g.1.0 h.1.1 g.1.1)
            ]
            | inr g ↦ absurd (breaks-apart Line line h.1.0 h.1.1 g.1.0)
          ]
        ]
        | inr h ↦ elim s [
          | inl v ↦ elim v [
            | inl g ↦ absurd (h.0 g.0)
            | inr g ↦ absurd (breaks-apart Line line g.1.0 g.1.1 h.1.0)
          ]
          | inr g ↦ same_refusal e f 4 h.1.1 g.1.1 h.1.3 g.1.3 (same_place h.1.0 g.1.0 h.1.1 g.1.1 h.1.2 g.1.2)
        ]
      ]

  -- whatever refuses or answers the line is the one refusal, or the one answer where its kinds have their texts alone
  pub only_refusal : (e : Refusal) → Refuses m line e → (s : Result (Narrowed K) Refusal) → Narrows o m line s → s ≡ Err e
  only_refusal e r (Ok n) a = absurd (refused_not_answered e n r a)
  only_refusal e r (Err f) s = ap Err (same_refused e f r s)

  pub only_answer : (k j : K) (t u : List ℕ) → ((i : K) → m.text i ≡ Some t → i ≡ k) → ((i : K) → m.text i ≡ Some u → i ≡ j) → Answers o m line (record { first = k; second = j; common = o.common k j }) → (l : Line line) → t ≡ l.first → u ≡ l.second → (s : Result (Narrowed K) Refusal) → Narrows o m line s → s ≡ Ok (record { first = k; second = j; common = o.common k j })
  only_answer k j t u f g a l c d (Err e) r = absurd (refused_not_answered e _ r a)
  only_answer k j t u f g a l c d (Ok n) b =
      let x : n.first ≡ k = f n.first (b.first ∙ ap Some (same_first line b.words l ∙ sym c)) in
      let y : n.second ≡ j = g n.second (b.second ∙ ap Some (same_second line b.words l ∙ sym d)) in
      let z : n.common ≡ o.common k j = b.common ∙ ap (λ i. o.common i n.second) x ∙ ap (o.common k) y in
      λ i. Ok (record { first = x i; second = y i; common = z i })
