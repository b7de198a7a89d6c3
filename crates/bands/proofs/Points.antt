-- A band's text is cut at its first two points.
use Rattle.std.proofs.Common.{◌≡◌, ℕ, zero, suc, ◌+◌, ◌^◌, ◌<◌, ◌≢◌, List, [], ◌∷◌, ◌++◌, length, get_or, take, drop, ℤ, pos, negsuc, nat_abs, FitsSigned, w64, Some, None, sym, refl, ap, ◌∙◌, inl, inr, arith}
use Rattle.std.specs.Fmt.{signed_decimal}
use Rattle.std.specs.Bool.{then_some}
use Rattle.std.specs.Str.{IsUtf8}
use Rattle.std.specs.Str.Pattern.{FindsText, SplitsAroundMatch}
use Rattle.std.proofs.Math.Seq.{take-append_seam, drop-append_seam}
use Rattle.std.proofs.lemmas.Int.{ints}
use Rattle.std.proofs.lemmas.Bool.{cases_order, cases_Bool, cond-true, both_ways}
use Rattle.std.proofs.lemmas.List.{get_or-drop, get_or_append_left, length-append, take-append-drop}
use Rattle.std.proofs.lemmas.Option.{none-some, same_Some}
use Rattle.std.proofs.lemmas.Str.{IsAscii-append, IsUtf8-from_ascii}
use Rattle.std.proofs.lemmas.Str.Ascii.{IsAscii-cons}
use Rattle.std.proofs.lemmas.Str.Parse.{digit_at}
use Rattle.std.proofs.lemmas.Fmt.{decimal_is_IsNumeral, IsAscii-signed}
use Rattle.bands.specs.declared.band.Band.{Band}
use Rattle.bands.specs.Bands.{IsBand, is_band}
use Rattle.bands.specs.Rules.{ends, same_ends}
use Rattle.bands.specs.Texts.{text, written, ReadsNumber, ReadsText}
use Rattle.bands.specs.Letters.{text_written}

abbrev points : List ℕ
points = 46 ∷ 46 ∷ []

abbrev NoPoint : List ℕ → Type 0
NoPoint xs = (i : ℕ) → i < length xs → get_or xs i 0 ≢ 46

number_no_point : (z : ℤ) → nat_abs z < 2 ^ 64 → NoPoint (signed_decimal z)
number_no_point (pos n) h i l e = omega (arith, digit_at (signed_decimal (pos n)) i (decimal_is_IsNumeral n h).0.1 l)
number_no_point (negsuc n) h zero l e = omega (arith, e)
number_no_point (negsuc n) h (suc i) l e = omega (arith, digit_at (signed_decimal (pos (suc n))) i (decimal_is_IsNumeral (suc n) h).0.1 (omega arith))

-- the first points stand where the front without a point ends
first_points : (s xs ys : List ℕ) (i j : ℕ) → s ≡ xs ++ 46 ∷ 46 ∷ ys → NoPoint xs → FindsText points s (Some (i, j)) → (take i s ≡ xs) × (drop j s ≡ ys)
first_points s xs ys i j e free found =
    let after : drop (length xs) s ≡ 46 ∷ 46 ∷ ys = rw e (drop-append_seam xs (46 ∷ 46 ∷ ys)) in
    let here : drop i s ≡ 46 ∷ 46 ∷ drop j s = found.1.split in
    elim (cases_order i (length xs)) [
      | inl is ↦
          let same : 46 ∷ 46 ∷ drop j s ≡ 46 ∷ 46 ∷ ys = sym here ∙ (ap (λ n. drop n s) is ∙ after) in
          (ap (λ n. take n s) is ∙ rw e (take-append_seam xs (46 ∷ 46 ∷ ys)), cc)
      | inr o ↦ elim o [
        | inl l ↦
            let same : i + 0 ≡ i = omega arith in
            let at : get_or s i 0 ≡ 46 = ap (λ n. get_or s n 0) (sym same) ∙ (sym (get_or-drop i s 0 0) ∙ ap (λ (bs : List ℕ). get_or bs 0 0) here) in
            let left : get_or s i 0 ≡ get_or xs i 0 = rw e (get_or_append_left xs (46 ∷ 46 ∷ ys) 0 i l) in
            absurd (free i l (sym left ∙ at))
        | inr l ↦ absurd (found.0 (length xs) l ys after)
      ]
    ]

-- ---- what a text of a band is

pub record IsWritten (t : List ℕ) (b : Band) : Type 0 where
  pub band : IsBand b
  pub whole : t ≡ written b
  pub low : FitsSigned w64 b.low
  pub high : FitsSigned w64 b.high

is_written : (t : List ℕ) (b : Band) → text b ≡ Some t → IsWritten t b
is_written t b e =
    let w = text_written b t e in
    let n = ends b w.0 in
    record { band = w.0; whole = w.1; low = omega (arith, ints); high = omega (arith, ints) }

-- bytes that are no text of a band
none_read : (t : List ℕ) → ((b : Band) → IsWritten t b → ⊥) → ReadsText t None
none_read t h = record { found = λ b e. absurd (h b (is_written t b e)); stands = λ b e. absurd (none-some b e) }

-- a text of a band is text
pub text_utf8 : (t : List ℕ) (b : Band) → text b ≡ Some t → IsUtf8 t
text_utf8 t b e =
    let w = is_written t b e in
    let low = IsAscii-signed b.low (omega (arith, ints)) in
    let high = IsAscii-signed b.high (omega (arith, ints)) in
    rw w.whole (IsUtf8-from_ascii (written b) (IsAscii-append (signed_decimal b.low) _ low (IsAscii-cons 46 (46 ∷ signed_decimal b.high) (omega arith) (IsAscii-cons 46 (signed_decimal b.high) (omega arith) high))))

pub no_points : (t : List ℕ) → FindsText points t None → ReadsText t None
no_points t h =
    none_read t (λ b w.
    let after : drop (length (signed_decimal b.low)) t ≡ points ++ signed_decimal b.high = rw w.whole (drop-append_seam (signed_decimal b.low) _) in
    h (length (signed_decimal b.low)) (omega (arith, simp length-append at (ap length w.whole))) (signed_decimal b.high) after)

-- the text is cut into low and high
module _ (t low high : List ℕ) (cut : SplitsAroundMatch (FindsText points) t low high) where
  parts : (b : Band) → IsWritten t b → (low ≡ signed_decimal b.low) × (high ≡ signed_decimal b.high)
  parts b w =
      let p = first_points t (signed_decimal b.low) (signed_decimal b.high) cut.0 cut.1 w.whole (number_no_point b.low (omega (arith, ints))) cut.2 in
      (cut.3 ∙ p.0, cut.4 ∙ p.1)

  pub no_low : ReadsNumber low None → ReadsText t None
  no_low r = none_read t (λ b w. none-some b.low ((r b.low w.low).0 (parts b w).0))

  pub no_high : ReadsNumber high None → ReadsText t None
  no_high r = none_read t (λ b w. none-some b.high ((r b.high w.high).0 (parts b w).1))

  pub one_read : (x y : ℤ) → FitsSigned w64 x → FitsSigned w64 y → ReadsNumber low (Some x) → ReadsNumber high (Some y) → ReadsText t (then_some (is_band (record { low = x; high = y })) (record { low = x; high = y }))
  one_read x y f g r s =
      let band : Band = record { low = x; high = y } in
      let same : (b : Band) → IsWritten t b → band ≡ b =
      λ b w. let p = parts b w in same_ends band b (same_Some x b.low ((r b.low w.low).0 p.0)) (same_Some y b.high ((s b.high w.high).0 p.1)) in
      let front : take cut.0 t ≡ signed_decimal x = sym cut.3 ∙ (r x f).1 refl in
      let back : drop cut.0 t ≡ 46 ∷ 46 ∷ signed_decimal y = cut.2.1.split ∙ ap (λ (bs : List ℕ). 46 ∷ 46 ∷ bs) (sym cut.4 ∙ (s y g).1 refl) in
      let whole : t ≡ written band = sym (take-append-drop cut.0 t) ∙ rw (front, back) refl in
      elim (cases_Bool (is_band band)) [
        | inl h ↦ rw h (record {
          found = λ b e. ap Some (same b (is_written t b e));
          stands = λ b e. rw (sym (same_Some band b e)) (cond-true (is_band band) (Some (written band)) None h ∙ ap Some (sym whole));
        })
        | inr h ↦ rw h (none_read t (λ b w. both_ways (is_band band) h (ap is_band (same b w) ∙ w.band)))
      ]
