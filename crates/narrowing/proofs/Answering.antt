-- What a line answers, from what its two texts read.
use Rattle.std.proofs.Common.{◌≡◌, ℕ, List, Some, Ok, Err, Result, refl, ap, ◌∙◌, subst, inl, inr}
use Rattle.orders.specs.Meaning.{Meaning}
use Rattle.orders.specs.Texts.{Texts}
use Rattle.orders.specs.Whole.{NoKind, OnlyKind}
use Rattle.refusals.specs.declared.Refusal.{Refusal}
use Rattle.narrowing.specs.declared.line.PlacedText.{PlacedText}
use Rattle.narrowing.specs.declared.narrow.Narrowed.{Narrowed}
use Rattle.narrowing.specs.Narrowing.{Split, ReadsAt, Refuses, Answers, Narrows}
use Rattle.narrowing.proofs.Sameness.{only_answer}

module _ {K : Type 0} (m : Texts K) (line : List ℕ) (a b : PlacedText) (s : Split line (Ok (a, b))) where
  pub wrong_first : (e : Refusal) → ReadsAt m a.text.now a.place (Err e) → Refuses m line e
  wrong_first e h =
      let (within, words) = s in
      let (l, is) = words in
      inr (within, (l, a.place, inl (subst (NoKind m) is.first h.0, is.first_place), h.1))

  pub wrong_second : (k : K) (e : Refusal) → OnlyKind m a.text.now k → ReadsAt m b.text.now b.place (Err e) → Refuses m line e
  wrong_second k e f h =
      let (within, words) = s in
      let (l, is) = words in
      inr (within, (l, b.place, inr ((k, f.0 ∙ ap Some is.first), subst (NoKind m) is.second h.0, is.second_place), h.1))

  pub both_read : (o : Meaning K) (k j : K) → OnlyKind m a.text.now k → OnlyKind m b.text.now j → Answers o m line (record { first = k; second = j; common = o.common k j })
  both_read o k j f g =
      let (within, words) = s in
      let (l, is) = words in
      record {
        within = within;
        words = l;
        first = f.0 ∙ ap Some is.first;
        second = g.0 ∙ ap Some is.second;
        common = refl;
      }

  pub both_fixed : (o : Meaning K) (k j : K) → OnlyKind m a.text.now k → OnlyKind m b.text.now j → (r : Result (Narrowed K) Refusal) → Narrows o m line r → r ≡ Ok (record { first = k; second = j; common = o.common k j })
  both_fixed o k j f g =
      let (within, words) = s in
      let (l, is) = words in
      only_answer o m line k j _ _ f.1 g.1 (both_read o k j f g) l is.first is.second
