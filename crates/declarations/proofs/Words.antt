-- Names and the bytes that they have.
use Rattle.std.proofs.Common.{◌≡◌, ℕ, zero, suc, ◌+◌, ◌-◌, ◌<◌, ◌≤◌, true, false, List, [], ◌∷◌, ◌++◌, length, get_or, drop, sym, refl, ap, ◌∙◌, inl, inr, arith, length-append, length-drop}
use Rattle.std.proofs.lemmas.List.{get_or_append_left, get_or-append_right, get_or-drop}
use Rattle.std.proofs.lemmas.Bool.{and_parts, or_left, both_ways, cases_lt, cases_order}
use Rattle.declarations.specs.Lines.{tail, WordEnd}
use Rattle.declarations.specs.Names.{letter, name_byte, all_name, is_name}

pub letter-name : (b : ℕ) → letter b ≡ true → name_byte b ≡ true
letter-name b l = or_left (letter b) _ l

all_at : (bs : List ℕ) (i : ℕ) → all_name bs ≡ true → i < length bs → name_byte (get_or bs i 0) ≡ true
unfolding all_name
all_at [] i a l = absurd (omega arith)
all_at (b ∷ bs) zero a l = (and_parts (name_byte b) _ a).0
all_at (b ∷ bs) (suc i) a l = all_at bs i (and_parts (name_byte b) _ a).1 (omega arith)

pub name-some : (w : List ℕ) → is_name w ≡ true → 0 < length w
name-some [] n = absurd (both_ways false refl n)
name-some (b ∷ bs) n = omega arith

pub name-first : (w : List ℕ) → is_name w ≡ true → letter (get_or w 0 0) ≡ true
name-first [] n = absurd (both_ways false refl n)
name-first (b ∷ bs) n = (and_parts (letter b) _ n).0

pub name_at : (w : List ℕ) (i : ℕ) → is_name w ≡ true → i < length w → name_byte (get_or w i 0) ≡ true
name_at [] i n l = absurd (both_ways false refl n)
name_at (b ∷ bs) zero n l = letter-name b (and_parts (letter b) _ n).0
name_at (b ∷ bs) (suc i) n l = all_at bs i (and_parts (letter b) _ n).1 (omega arith)

-- a blank is in no name
pub blank_apart : (b : ℕ) → name_byte b ≡ true → b ≡ 32 → ⊥
blank_apart b n e = both_ways (name_byte b) (rw e refl) n

-- a name at the front of a line
module _ (line name rest : List ℕ) (n : is_name name ≡ true) (e : line ≡ name ++ rest) where
  pub front_at : (i : ℕ) → i < length name → name_byte (get_or line i 0) ≡ true
  front_at i l = rw (e, get_or_append_left name rest 0 i l) (name_at name i n l)

  pub front-first : letter (get_or line 0 0) ≡ true
  front-first = rw (e, get_or_append_left name rest 0 0 (name-some name n)) (name-first name n)

tail-first : (ws : List (List ℕ)) → 0 < length (tail ws) → get_or (tail ws) 0 0 ≡ 32
unfolding tail
tail-first [] l = absurd (omega arith)
tail-first (w ∷ ws) l = refl

sub_self : (n : ℕ) → n - n ≡ 0
sub_self n = omega arith

-- the longest name is found
pub name-most : (line : List ℕ) (i : ℕ) → (0 < i → name_byte (get_or line i 0) ≡ false) → (i ≡ 0 → letter (get_or line 0 0) ≡ false) → (name rest : List ℕ) → is_name name ≡ true → line ≡ name ++ rest → length name ≤ i
name-most line i m f name rest n e =
    elim (cases_lt i (length name)) [
      | inl l ↦
          elim (cases_lt 0 i) [
            | inl p ↦ absurd (both_ways _ (m p) (front_at line name rest n e i l))
            | inr z ↦ absurd (both_ways _ (f (omega arith)) (front-first line name rest n e))
          ]
      | inr l ↦ l
    ]

-- a word of a line that goes on with more words
module _ (line : List ℕ) (start : ℕ) (w : List ℕ) (ws : List (List ℕ)) (n : is_name w ≡ true) (e : drop start line ≡ w ++ tail ws) where
  word-length : length line ≡ start + length w + length (tail ws)
  word-length = omega (arith, length-drop start line, ap length e, length-append w (tail ws), name-some w n)

  word_byte : (k : ℕ) → k < length w → get_or line (start + k) 0 ≡ 32 → ⊥
  word_byte k l b =
      let at : get_or line (start + k) 0 ≡ get_or w k 0 =
      sym (get_or-drop start line k 0) ∙ ap (λ x. get_or x k 0) e ∙ get_or_append_left w (tail ws) 0 k l in
      blank_apart (get_or w k 0) (name_at w k n l) (sym at ∙ b)

  -- more words begin with a blank
  word_blank : 0 < length (tail ws) → get_or line (start + length w) 0 ≡ 32
  word_blank l =
      sym (get_or-drop start line (length w) 0) ∙ ap (λ x. get_or x (length w) 0) e ∙ get_or-append_right w (tail ws) (length w) (length w) 0 refl (omega arith)
      ∙ ap (λ k. get_or (tail ws) k 0) (sub_self (length w)) ∙ tail-first ws l

  pub word_found : (i : ℕ) → start ≤ i → i < length line → get_or line i 0 ≡ 32 → ((k : ℕ) → start ≤ k → k < i → get_or line k 0 ≡ 32 → ⊥) → i ≡ start + length w
  word_found i s l b none =
      elim (cases_order i (start + length w)) [
        | inl h ↦ h
        | inr o ↦ elim o [
          | inl h ↦
              let k : start + (i - start) ≡ i = omega arith in
              absurd (word_byte (i - start) (omega arith) (ap (λ x. get_or line x 0) k ∙ b))
          | inr h ↦ absurd (none (start + length w) (omega arith) h (word_blank (omega (arith, word-length))))
        ]
      ]

  pub word-last : (i : ℕ) → length line ≤ i → ((k : ℕ) → start ≤ k → k < i → get_or line k 0 ≡ 32 → ⊥) → length line ≡ start + length w
  word-last i l none =
      elim (cases_lt 0 (length (tail ws))) [
        | inl h ↦ absurd (none (start + length w) (omega arith) (omega (arith, word-length)) (word_blank h))
        | inr h ↦ omega (arith, word-length)
      ]

  -- so the word's end is the word's end
  pub word-ends : (n : ℕ) → WordEnd line start n → n ≡ start + length w
  word-ends n e =
      elim e.end [
        | inl all ↦ all ∙ word-last n (omega arith) e.before
        | inr h ↦ word_found n h.0 h.1 h.2 e.before
      ]
