-- The number whose text this is, by the library's parse.
use Rattle.std.proofs.Common.{◌≡◌, ℕ, zero, suc, ◌^◌, ◌<◌, ◌≤◌, ◌≢◌, true, false, List, ◌∷◌, length, get_or, drop, ℤ, pos, negsuc, neg_ℤ, FitsSigned, w64, Some, None, Ok, Err, Result, decimal, sym, refl, ap, ◌∙◌, subst, arith, inl, inr}
use Rattle.std.specs.Result.{result_ok}
use Rattle.std.specs.Fmt.{signed_decimal}
use Rattle.std.specs.Str.Parse.{AllDigits, digits_value, ParsesSigned}
use Rattle.std.proofs.lemmas.Int.{ints}
use Rattle.std.proofs.lemmas.Bool.{false≢true, cases_lt, cases_order}
use Rattle.std.proofs.lemmas.Bool.Decides.{nat_tests}
use Rattle.std.proofs.lemmas.List.{drop_more, get_or-drop, length-drop}
use Rattle.std.proofs.lemmas.Option.{none-some, same_Some}
use Rattle.std.proofs.lemmas.Str.Parse.{IsNumeralModel, numerals_by_value, tells_digits, digit_at, parse_signed_minus, parse_signed_plain}
use Rattle.std.proofs.lemmas.Fmt.{parse-signed_decimal, decimal_digit, decimal_nonempty, first_decimal, decimal_is_IsNumeral, decimal-digits_value}
use Rattle.bands.specs.Texts.{plain, ReadsNumber}

own : IsNumeralModel (AllDigits 10) (digits_value 10)
own = numerals_by_value (AllDigits 10) tells_digits

-- ---- what a plain text begins with

front_minus : (t : List ℕ) → plain t ≡ true → get_or t 0 0 ≡ 45 → 49 ≤ get_or t 1 0
unfolding plain
front_minus t h e = grind (arith, nat_tests)

front_plain : (t : List ℕ) → plain t ≡ true → get_or t 0 0 ≢ 45 → (48 ≤ get_or t 0 0) × (get_or t 0 0 ≡ 48 → length t ≡ 1)
unfolding plain
front_plain t h e = (grind (arith, nat_tests), λ z. grind (arith, nat_tests))

-- ---- the text of a number is plain

plain_leads : (t : List ℕ) → get_or t 0 0 ≢ 45 → 49 ≤ get_or t 0 0 → get_or t 0 0 ≤ 57 → plain t ≡ true
unfolding plain
plain_leads t e g h = grind (arith, nat_tests)

plain_minus : (t : List ℕ) → get_or t 0 0 ≡ 45 → 49 ≤ get_or t 1 0 → get_or t 1 0 ≤ 57 → plain t ≡ true
unfolding plain
plain_minus t e g h = grind (arith, nat_tests)

-- the first digit of a number that is not 0
leading : (n : ℕ) → suc n < 2 ^ 64 → (49 ≤ get_or (decimal (suc n)) 0 0) × (get_or (decimal (suc n)) 0 0 ≤ 57)
leading n l = (first_decimal (suc n) (omega arith) l, (digit_at (decimal (suc n)) 0 (decimal_is_IsNumeral (suc n) l).0.1 (decimal_nonempty (suc n) l)).1)

number_plain : (z : ℤ) → FitsSigned w64 z → plain (signed_decimal z) ≡ true
unfolding plain
number_plain (pos zero) h = subst (λ t. plain t ≡ true) (sym (decimal_digit 0 (omega arith))) refl
number_plain (pos (suc n)) h =
    let (g, l) = leading n (omega (arith, ints)) in
    plain_leads (decimal (suc n)) (omega (arith, g)) g l
number_plain (negsuc n) h =
    let (g, l) = leading n (omega (arith, ints)) in
    plain_minus (45 ∷ decimal (suc n)) refl g l

-- ---- and a plain text is that of the number that it is parsed as

minus_text : (n : ℕ) → 0 < n → signed_decimal (neg_ℤ (pos n)) ≡ 45 ∷ decimal n
minus_text zero l = absurd (omega arith)
minus_text (suc n) l = refl

-- digits that no zero leads are those of their value
own_digits : (ds : List ℕ) → AllDigits 10 ds → 0 < length ds → digits_value 10 ds ≤ 2 ^ 63 → (get_or ds 0 0 ≡ 48 → length ds ≡ 1) → decimal (digits_value 10 ds) ≡ ds
own_digits ds all some small lead = decimal-digits_value own ds all some lead (omega arith)

-- and their value is above 0
value_above : (ds : List ℕ) → decimal (digits_value 10 ds) ≡ ds → 49 ≤ get_or ds 0 0 → 0 < digits_value 10 ds
value_above ds e lead =
    elim (cases_lt 0 (digits_value 10 ds)) [
      | inl l ↦ l
      | inr l ↦
          let zero-is : digits_value 10 ds ≡ 0 = omega arith in
          let first : 48 ≡ get_or ds 0 0 = ap (λ (bs : List ℕ). get_or bs 0 0) (sym (decimal_digit 0 (omega arith)) ∙ ap decimal (sym zero-is) ∙ e) in
          absurd (omega (arith, first))
    ]

module _ {E : Type 0} (t : List ℕ) where
  plain_read : (r : Result ℤ E) → ParsesSigned w64 10 t r → plain t ≡ true → (y : ℤ) → result_ok r ≡ Some y → t ≡ signed_decimal y
  plain_read (Err e) parsed h y is = absurd (none-some y is)
  plain_read (Ok x) parsed h y is =
      let same : x ≡ y = same_Some x y is in
      elim (cases_order (get_or t 0 0) 45) [
        | inl m ↦
            let ds : List ℕ = drop 1 t in
            let (valid, value) = parse_signed_minus own {E = E} w64 t (Ok x) parsed m in
            let (all, some, small) = valid in
            let at : get_or ds 0 0 ≡ get_or t 1 0 = get_or-drop 1 t 0 0 in
            let lead : 49 ≤ get_or ds 0 0 = omega (arith, at, front_minus t h m) in
            let text = own_digits ds all some small (λ z. absurd (omega arith)) in
            drop_more t 0 0 (omega (arith, length-drop 1 t)) ∙ ap (λ b. b ∷ ds) m ∙ ap (λ (bs : List ℕ). 45 ∷ bs) (sym text)
            ∙ sym (minus_text (digits_value 10 ds) (value_above ds text lead)) ∙ ap signed_decimal (sym value ∙ same)
        | inr o ↦
            let ne : get_or t 0 0 ≢ 45 = λ e. elim o [ inl l ↦ omega (arith, e) | inr l ↦ omega (arith, e) ] in
            let (low, lead) = front_plain t h ne in
            let (valid, value) = parse_signed_plain own {E = E} w64 t (Ok x) parsed (λ e. omega (arith, e)) ne in
            let (all, some, small) = valid in
            sym (own_digits t all some (omega arith) lead) ∙ ap signed_decimal (sym value ∙ same)
      ]

  module _ (r : Result ℤ E) (parsed : ParsesSigned w64 10 t r) where
    -- the text of a number is parsed as the number
    parsed_back : (z : ℤ) → FitsSigned w64 z → t ≡ signed_decimal z → result_ok r ≡ Some z
    parsed_back z fits e = ap result_ok (parse-signed_decimal w64 z t r fits (omega (arith, ints)) e parsed)

    pub is_parsed : plain t ≡ true → ReadsNumber t (result_ok r)
    is_parsed h z fits = (parsed_back z fits, plain_read r parsed h z)

pub not_plain : (t : List ℕ) → plain t ≡ false → ReadsNumber t None
not_plain t h z fits = (λ e. absurd (false≢true (sym h ∙ ap plain e ∙ number_plain z fits)), λ e. absurd (none-some z e))

-- the answer of `amount` in each of its cases
pub ruleset amount_cases = (not_plain, is_parsed)
