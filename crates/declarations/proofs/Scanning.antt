-- Where a name ends that a line begins with, and where a word of the line ends.
use Rattle.std.proofs.Common.{◌≡◌, ℕ, ◌+◌, ◌-◌, ◌<◌, ◌≤◌, Bool, not, true, false, eqb, List, [], ◌∷◌, length, get_or, take, drop, position, unwrap_or, Option, add_comm, add-one, sym, refl, ap, ◌∙◌, subst, inl, inr, arith, length-append, length-drop}
use Rattle.std.specs.List.{position_or_len, slice_range}
use Rattle.std.proofs.lemmas.List.Sums.{prefix_len-le-length, prefix_len_stops, fails_before_first}
use Rattle.std.proofs.lemmas.List.{get_or-drop, take_rest}
use Rattle.std.proofs.lemmas.Bool.{both_ways, and_from, not-true, not-false, cases_Bool, cases_lt, eqb-true, eq-eqb}
use Rattle.orders.proofs.Parts.{first_or_end}
use Rattle.declarations.specs.Names.{letter, name_byte, all_name, is_name}
use Rattle.declarations.specs.Lines.{NameEnd, WordEnd}
use Rattle.declarations.proofs.Words.{letter-name, name-some, front-first, name-most}

abbrev outside : ℕ → Bool
outside = λ b. not (name_byte b)

-- one byte more of a name
all_more : (b : ℕ) (bs : List ℕ) (n : ℕ) → name_byte b ≡ true → all_name (take n bs) ≡ true → all_name (take (1 + n) (b ∷ bs)) ≡ true
unfolding all_name
all_more b bs n t h = rw (add_comm 1 n, add-one) (and_from _ _ t h)

all_front : (bs : List ℕ) → all_name (take (position_or_len outside bs) bs) ≡ true
unfolding all_name
all_front [] = refl
all_front (b ∷ bs) =
    elim (cases_Bool (name_byte b)) [
      | inl t ↦ rw t (all_more b bs _ t (all_front bs))
      | inr f ↦ rw f refl
    ]

name_more : (b : ℕ) (bs : List ℕ) (n : ℕ) → letter b ≡ true → all_name (take n bs) ≡ true → is_name (take (1 + n) (b ∷ bs)) ≡ true
name_more b bs n t h = rw (add_comm 1 n, add-one) (and_from _ _ t h)

name_front : (line : List ℕ) → 0 < length line → letter (get_or line 0 0) ≡ true → is_name (take (position_or_len outside line) line) ≡ true
name_front [] l t = absurd (omega arith)
name_front (b ∷ bs) l t = rw (letter-name b t) (name_more b bs _ t (all_front bs))

-- a byte past the name
name_stops : (line : List ℕ) → position_or_len outside line < length line → name_byte (get_or line (position_or_len outside line) 0) ≡ false
name_stops line l = not-true _ (not-false _ (prefix_len_stops (λ b. not (outside b)) line 0 l))

-- what the line begins with from its first letter to the first byte outside names
longest : (line : List ℕ) → 0 < length line → letter (get_or line 0 0) ≡ true → NameEnd line (position_or_len outside line)
longest line l t =
    let n : ℕ = position_or_len outside line in
    record {
      within = prefix_len-le-length (λ b. not (outside b)) line;
      name = λ _. name_front line l t;
      most = λ name rest is whole. elim (cases_lt (position_or_len outside line) (length line)) [
        | inl h ↦ name-most line (position_or_len outside line) (λ _. name_stops line h) (λ z. absurd (both_ways _ (ap (λ k. name_byte (get_or line k 0)) (sym z) ∙ name_stops line h) (letter-name (get_or line 0 0) t))) name rest is whole
        | inr h ↦ omega (arith, ap length whole, length-append name rest)
      ];
    }

pub longest_name : (line : List ℕ) (r : Option ℕ) (n : ℕ) → 0 < length line → letter (get_or line 0 0) ≡ true → r ≡ position (λ b. not (name_byte b)) line → n ≡ unwrap_or r (length line) → NameEnd line n
longest_name line r n l t e f = subst (NameEnd line) (sym (first_or_end outside line r n e f)) (longest line l t)

-- a line that begins with no letter begins with no name
pub no_name : (line : List ℕ) (n : ℕ) → n ≡ 0 → (0 < length line → letter (get_or line 0 0) ≡ false) → NameEnd line n
no_name line n z f =
    record {
      within = omega arith;
      name = λ h. absurd (omega arith);
      most = λ name rest is whole. absurd (both_ways _ (f (omega (arith, ap length whole, length-append name rest, name-some name is))) (front-first line name rest is whole));
    }

abbrev blank : ℕ → Bool
blank = λ b. eqb b 32

-- a word ends at the first blank from its start on
pub word_past : (line : List ℕ) (start : ℕ) (rest : List ℕ) (r : Option ℕ) (n : ℕ) → start ≤ length line → rest ≡ slice_range line start (length line) → r ≡ position (λ b. eqb b 32) rest → n ≡ start + unwrap_or r (length rest) → WordEnd line start n
word_past line start rest r n l g e f =
    let d : rest ≡ drop start line = g ∙ take_rest line start in
    let m : unwrap_or r (length rest) ≡ position_or_len blank rest = first_or_end blank rest r _ e refl in
    let len : start + length rest ≡ length line = omega (arith, ap length d, length-drop start line) in
    let at : (k : ℕ) → get_or rest k 0 ≡ get_or line (start + k) 0 = λ k. ap (λ x. get_or x k 0) d ∙ get_or-drop start line k 0 in
    let most : position_or_len blank rest ≤ length rest = prefix_len-le-length (λ b. not (blank b)) rest in
    record {
      before = λ k h g b.
          let same : start + (k - start) ≡ k = omega arith in
          both_ways (blank (get_or rest (k - start) 0)) (fails_before_first blank rest (k - start) 0 (omega arith)) (eq-eqb _ 32 (at (k - start) ∙ ap (λ i. get_or line i 0) same ∙ b));
      end = elim (cases_lt (position_or_len blank rest) (length rest)) [
        | inl h ↦ inr (omega arith, omega arith, ap (λ i. get_or line i 0) (f ∙ ap (λ i. start + i) m) ∙ sym (at (position_or_len blank rest)) ∙ eqb-true _ 32 (not-false _ (prefix_len_stops (λ b. not (blank b)) rest 0 h)))
        | inr h ↦ inl (omega arith)
      ];
    }

-- past the line there is no word
pub no_word : (line : List ℕ) (start n : ℕ) → length line < start → n ≡ length line → WordEnd line start n
no_word line start n h e = record { before = λ k s l b. omega arith; end = inl e }
