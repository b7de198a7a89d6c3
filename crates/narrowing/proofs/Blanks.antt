-- The first blank of a lawful line stands between its texts.
use Rattle.std.proofs.Common.{◌≡◌, ℕ, ◌+◌, ◌<◌, true, eqb, List, ◌∷◌, length, get_or, take, drop, position, unwrap_or, Option, sym, refl, ap, ◌∙◌, arith, length-append}
use Rattle.std.specs.List.{position_or_len}
use Rattle.std.proofs.lemmas.List.Sums.{position_or_len_is}
use Rattle.std.proofs.lemmas.List.{get_or_at, get_or_append_left, take_at, drop_at, drop-drop}
use Rattle.std.proofs.ByRecursion.{All-get_or}
use Rattle.std.proofs.lemmas.Bool.{both_ways, eq-eqb, ne_eqb}
use Rattle.orders.specs.Texts.{text_byte}
use Rattle.orders.proofs.Parts.{first_or_end}
use Rattle.narrowing.specs.Lines.{Line}

-- a blank is in no text
blank_apart : (b : ℕ) → text_byte b ≡ true → b ≡ 32 → ⊥
blank_apart b t e = both_ways (text_byte b) (rw e refl) t

module _ (line : List ℕ) (l : Line line) where
  pub line_length : length line ≡ length l.first + 1 + length l.second
  line_length = omega (arith, ap length l.whole, length-append l.first (32 ∷ l.second))

  blank_here : get_or line (length l.first) 0 ≡ 32
  blank_here = ap (λ x. get_or x (length l.first) 0) l.whole ∙ get_or_at l.first 32 l.second 0 (length l.first) refl

  no_blank : (k : ℕ) → k < length l.first → get_or line k 0 ≡ 32 → ⊥
  no_blank k h b =
      let at : get_or line k 0 ≡ get_or l.first k 0 =
      ap (λ x. get_or x k 0) l.whole ∙ get_or_append_left l.first (32 ∷ l.second) 0 k h in
      blank_apart (get_or l.first k 0) (All-get_or (λ b. text_byte b ≡ true) l.first k 0 h l.first_text.1) (sym at ∙ b)

  blank_place : position_or_len (λ b. eqb b 32) line ≡ length l.first
  blank_place =
      position_or_len_is (λ b. eqb b 32) line (length l.first) 0 (omega (arith, line_length))
      (λ k h. ne_eqb (get_or line k 0) 32 (no_blank k h)) (λ _. eq-eqb _ 32 blank_here)

  -- the first blank is what is looked for
  pub blank_is : (r : Option ℕ) (n : ℕ) → r ≡ position (λ b. eqb b 32) line → n ≡ unwrap_or r (length line) → n ≡ length l.first
  blank_is r n e f = first_or_end (λ b. eqb b 32) line r n e f ∙ blank_place

  -- the two texts, as parts of the line
  pub front_is : (n : ℕ) → n ≡ length l.first → take n line ≡ l.first
  front_is n e = ap (take n) l.whole ∙ take_at l.first (32 ∷ l.second) n (sym e)

  pub back_is : (n : ℕ) → n ≡ length l.first → drop (n + 1) line ≡ l.second
  back_is n e =
      sym (drop-drop 1 n line) ∙ ap (drop 1) (ap (drop n) l.whole ∙ drop_at l.first (32 ∷ l.second) n (sym e))

-- a line has these two texts and no others
module _ (line : List ℕ) (l k : Line line) where
  same_length : length l.first ≡ length k.first
  same_length = sym (blank_place line l) ∙ blank_place line k

  pub same_first : l.first ≡ k.first
  same_first = sym (front_is line l (length l.first) refl) ∙ front_is line k (length l.first) same_length

  pub same_second : l.second ≡ k.second
  same_second = sym (back_is line l (length l.first) refl) ∙ back_is line k (length l.first) same_length
