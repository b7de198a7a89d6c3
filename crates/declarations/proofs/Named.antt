-- The texts of declared kinds: their names.
use Rattle.std.proofs.Common.{◌≡◌, ℕ, ◌<◌, true, false, ◌&&◌, eqb, ltb, leb, List, [], ◌∷◌, length, Some, None, Option, sym, refl, ap, ◌∙◌, subst, inl, inr, arith}
use Rattle.std.specs.List.{AllByRecursion}
use Rattle.std.proofs.ByRecursion.{All-weaker}
use Rattle.std.proofs.lemmas.Bool.{and_parts, or_cases, or_left, or_right, cases_Bool, cond-true, cond-false, ltb-true, lt-ltb, not_from_true, both_ways}
use Rattle.orders.specs.Texts.{Texts, IsText, part_byte, text_byte, stops}
use Rattle.orders.proofs.Singles.{ReadsWhole}
use Rattle.declarations.specs.Names.{letter, name_byte, all_name, is_name, listed}
use Rattle.declarations.specs.Declarations.{Declaration, name_of, name_text, names, sound}
use Rattle.declarations.proofs.Sound.{is_named, same_name, listed_at}
use Rattle.declarations.proofs.Words.{name-some, letter-name}

name-part : (b : ℕ) → name_byte b ≡ true → part_byte b ≡ true
name-part b h =
    elim (or_cases (letter b) _ h) [
      | inl l ↦ or_left (letter b) _ l
      | inr r ↦ elim (or_cases (leb 48 b && leb b 57) _ r) [
        | inl d ↦ or_right (letter b) _ (or_left (leb 48 b && leb b 57) _ d)
        | inr u ↦ or_right (letter b) _ (or_right (leb 48 b && leb b 57) _ (or_left (eqb b 95) _ u))
      ]
    ]

all_parts : (bs : List ℕ) → all_name bs ≡ true → AllByRecursion (λ b. part_byte b ≡ true) bs
unfolding all_name
all_parts [] a = tt
all_parts (b ∷ bs) a = let p = and_parts (name_byte b) _ a in (name-part b p.0, all_parts bs p.1)

name_parts : (w : List ℕ) → is_name w ≡ true → AllByRecursion (λ b. part_byte b ≡ true) w
name_parts [] n = absurd (both_ways false refl n)
name_parts (b ∷ bs) n = let p = and_parts (letter b) _ n in (name-part b (letter-name b p.0), all_parts bs p.1)

pub text-name : (ds : List Declaration) (k : ℕ) (t : List ℕ) → name_text ds k ≡ Some t → (k < length ds) × (name_of ds k ≡ t)
text-name ds k t e =
    elim (cases_Bool (ltb k (length ds))) [
      | inl l ↦ let same : Some (name_of ds k) ≡ Some t = sym (cond-true _ (Some (name_of ds k)) None l) ∙ e in (ltb-true k (length ds) l, cc)
      | inr f ↦
          let none : ◌≡◌ {A = Option (List ℕ)} None (Some t) = sym (cond-false _ (Some (name_of ds k)) None f) ∙ e in
          let z : ◌≡◌ {A = ℕ} 0 1 = cc in
          absurd (omega arith)
    ]

module _ (ds : List Declaration) (ok : sound ds ≡ true) where
  pub parts_of : (k : ℕ) (t : List ℕ) → name_text ds k ≡ Some t → AllByRecursion (λ b. part_byte b ≡ true) t
  parts_of k t e = let (l, is) = text-name ds k t e in subst (AllByRecursion (λ b. part_byte b ≡ true)) is (name_parts (name_of ds k) (is_named ds ok k l))

  pub text-lawful : (k : ℕ) (t : List ℕ) → name_text ds k ≡ Some t → IsText t
  text-lawful k t e =
      let (l, is) = text-name ds k t e in
      (subst (λ w. 0 < length w) is (name-some (name_of ds k) (is_named ds ok k l)), All-weaker (λ b. part_byte b ≡ true) (λ b. text_byte b ≡ true) (λ b h. or_left (part_byte b) _ h) t (parts_of k t e))

  -- the texts of sound declarations
  abbrev pub texts_of : Texts ℕ
  texts_of = record { text = name_text ds; lawful = text-lawful }

  pub single : (k : ℕ) (t : List ℕ) → name_text ds k ≡ Some t → AllByRecursion (λ b. stops b ≡ false) t
  single k t e = All-weaker (λ b. part_byte b ≡ true) (λ b. stops b ≡ false) (λ b h. not_from_true (part_byte b) h) t (parts_of k t e)

  pub reads_name : (k : ℕ) (w : List ℕ) → k < length ds → name_of ds k ≡ w → ReadsWhole texts_of w (Some k)
  reads_name k w l e j = (
    λ t. let (m, f) = text-name ds j w t in ap Some (same_name ds ok k j l m (e ∙ sym f)),
    λ same. let is : k ≡ j = cc in subst (λ x. name_text ds x ≡ Some w) is (cond-true _ (Some (name_of ds k)) None (lt-ltb k (length ds) l) ∙ ap Some e),
  )

  pub reads_none : (w : List ℕ) → listed w (names ds) ≡ false → ReadsWhole texts_of w None
  reads_none w u j = (
    λ t. let (m, f) = text-name ds j w t in absurd (both_ways _ u (subst (λ x. listed x (names ds) ≡ true) f (listed_at ds j m))),
    λ none. let z : ◌≡◌ {A = ℕ} 0 1 = cc in absurd (omega arith),
  )
