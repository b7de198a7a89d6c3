-- The texts of bands are texts: the bytes that they have.
use Rattle.std.specs.Prelude.{◌≡◌, ℕ, suc, ◌^◌, ◌<◌, true, List, length, ℤ, pos, negsuc, Some, None, decimal, slice_index, unsigned_abs, refl}
use Rattle.std.proofs.Common.{inl, inr, arith}
use Rattle.std.specs.Int.{IsInRange}
use Rattle.std.specs.Fmt.{signed_decimal}
use Rattle.std.specs.List.{AllByRecursion}
use Rattle.std.proofs.lemmas.Int.{ints}
use Rattle.std.proofs.lemmas.Bool.{le-leb, and_from, or_left, or_right, cases_Bool, cond-true, cond-false}
use Rattle.std.proofs.lemmas.List.{length-append}
use Rattle.std.proofs.ByRecursion.{All-from_get_or, All-append, All-weaker}
use Rattle.std.proofs.lemmas.Str.Parse.{digit_at}
use Rattle.std.proofs.lemmas.Fmt.{decimal_is_IsNumeral}
use Rattle.orders.specs.Texts.{Texts, IsText, part_byte, text_byte}
use Rattle.bands.specs.declared.band.Band.{Band}
use Rattle.bands.specs.Bands.{IsBand, is_band}
use Rattle.bands.specs.Rules.{ends}
use Rattle.bands.specs.Texts.{text, written}

abbrev pub Letters : List ℕ → Type 0
Letters t = AllByRecursion (λ b. part_byte b ≡ true) t

digit_letter : (c : ℕ) → IsInRange 48 57 c → part_byte c ≡ true
digit_letter c h = or_right _ _ (or_left _ _ (and_from _ _ (le-leb 48 c h.0) (le-leb c 57 h.1)))

decimal_letters : (n : ℕ) → n < 2 ^ 64 → Letters (decimal n)
decimal_letters n h =
    All-from_get_or (λ b. part_byte b ≡ true) (decimal n) 0 (λ i l. digit_letter (slice_index (decimal n) i) (digit_at (decimal n) i (decimal_is_IsNumeral n h).0.1 l))

signed_letters : (z : ℤ) → unsigned_abs z < 2 ^ 64 → Letters (signed_decimal z)
signed_letters (pos n) h = decimal_letters n h
signed_letters (negsuc n) h = (refl, decimal_letters (suc n) h)

pub low_small : (b : Band) → IsBand b → unsigned_abs b.low < 10 ^ 13
low_small b h = let e = ends b h in omega (arith, ints)

pub high_small : (b : Band) → IsBand b → unsigned_abs b.high < 10 ^ 13
high_small b h = let e = ends b h in omega (arith, ints)

pub written_letters : (b : Band) → IsBand b → Letters (written b)
written_letters b h =
    All-append (λ b. part_byte b ≡ true) (signed_decimal b.low) _ (signed_letters b.low (omega (arith, low_small b h)))
    (refl, (refl, signed_letters b.high (omega (arith, high_small b h))))

-- only a band has a text
pub text_written : (b : Band) (t : List ℕ) → text b ≡ Some t → IsBand b × (t ≡ written b)
text_written b t e =
    elim (cases_Bool (is_band b)) [
      | inl h ↦ let f = cond-true (is_band b) (Some (written b)) None h in (h, cc)
      | inr h ↦
          let f = cond-false (is_band b) (Some (written b)) None h in
          let z : ◌≡◌ {A = ℕ} 0 1 = cc in
          absurd (omega arith)
    ]

pub lawful : (b : Band) (t : List ℕ) → text b ≡ Some t → IsText t
lawful b t e =
    let p = text_written b t e in
    let some : 0 < length (written b) = simp length-append (omega arith) in
    rw p.1 (some, All-weaker (λ c. part_byte c ≡ true) (λ c. text_byte c ≡ true) (λ c h. or_left _ _ h) (written b) (written_letters b p.0))

abbrev pub texts : Texts Band
texts = record { text = text; lawful = lawful }
