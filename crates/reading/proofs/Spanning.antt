-- Parts of a line one after the other, and the longest words.
use Rattle.std.proofs.Common.{◌≡◌, ℕ, zero, suc, ◌+◌, ◌-◌, ◌<◌, ◌≤◌, Bool, true, not, List, [], ◌∷◌, ◌++◌, length, get_or, take, drop, Some, None, inl, inr, sym, refl, ap, ◌∙◌, subst, append_assoc, append-nil, arith, length-append}
use Rattle.std.proofs.lemmas.List.{take-append-drop, take-take, drop-take, drop_at, length-take-le, length-drop, take_all, get_or-take, get_or-drop, take_more}
use Rattle.std.proofs.lemmas.Bool.{and_from, not-true, not-false, cases_lt, cond-true, cond-false, lt-ltb, le-ltb}
use Rattle.std.specs.List.{position_or_len}
use Rattle.std.specs.Option.{unwrap_or}
use Rattle.std.proofs.lemmas.List.Sums.{fails_before_first, passes_at_first, prefix_len-le-length}
use Rattle.grammar.specs.Words.{all_by}
use Rattle.reading.specs.declared.reader.Class.{Class}
use Rattle.reading.specs.Notes.{part}
use Rattle.reading.specs.Reading.{in_class, first_outside, leading, Spans, Longest}

pub all_by_each : (p : ℕ → Bool) (xs : List ℕ) → ((k : ℕ) → k < length xs → p (get_or xs k 0) ≡ true) → all_by p xs ≡ true
unfolding all_by
all_by_each p [] h = refl
all_by_each p (x ∷ xs) h = and_from (p x) _ (h zero (omega arith)) (all_by_each p xs (λ k l. h (suc k) (omega arith)))

-- the bytes between two places
pub spans_between : (line : List ℕ) (i j : ℕ) → i ≤ j → j ≤ length line → Spans line i j (take (j - i) (drop i line))
spans_between line i j a b =
    let size : length (take (j - i) (drop i line)) ≡ j - i = length-take-le (j - i) (drop i line) (omega (arith, length-drop i line)) in
    let e : i + (j - i) ≡ j = omega arith in
    let d : drop i (take j line) ≡ take (j - i) (drop i line) = ap (λ n. drop i (take n line)) (sym e) ∙ drop-take i (j - i) line in
    record {
      end = omega arith;
      within = b;
      bytes = sym (take-append-drop i (take j line)) ∙ ap (λ x. x ++ drop i (take j line)) (take-take i j line a) ∙ ap (λ x. take i line ++ x) d;
    }

pub spans-none : (line : List ℕ) (i : ℕ) → i ≤ length line → Spans line i i []
spans-none line i l = record { end = omega arith; within = l; bytes = sym (append-nil (take i line)) }

pub spans_join : {line : List ℕ} {i j k : ℕ} {v w : List ℕ} → Spans line i j v → Spans line j k w → Spans line i k (v ++ w)
spans_join {line} {i} {j} {k} {v} {w} s t =
    record {
      end = omega (arith, length-append v w, s.end, t.end);
      within = t.within;
      bytes = t.bytes ∙ ap (λ x. x ++ w) s.bytes ∙ append_assoc (take i line) v w;
    }

pub spans_byte : (line : List ℕ) (i b : ℕ) → i < length line → get_or line i 0 ≡ b → Spans line i (i + 1) (b ∷ [])
spans_byte line i b l e =
    record { end = omega arith; within = omega arith; bytes = take_more line i 0 l ∙ ap (λ x. take i line ++ x ∷ []) e }

-- a part of the line by its place and length
pub spans-part : (line : List ℕ) (i j : ℕ) (w : List ℕ) → Spans line i j w → part line (record { place = i; len = length w }) ≡ w
spans-part line i j w s =
    let size : length (take i line) ≡ i = length-take-le i line (omega (arith, s.end, s.within)) in
    sym (drop-take i (length w) line) ∙ ap (λ n. drop i (take n line)) s.end ∙ ap (drop i) s.bytes ∙ drop_at (take i line) w i size

-- the code counts them up to the first byte outside
pub leading_is : (class : Class) (bytes : List ℕ) → unwrap_or (first_outside class bytes) (length bytes) ≡ leading class bytes
unfolding leading first_outside
leading_is class bytes =
    let q : ℕ → Bool = λ b. not (in_class class b) in
    let few = prefix_len-le-length (λ b. not (q b)) bytes in
    elim (cases_lt (position_or_len q bytes) (length bytes)) [
      | inl l ↦ ap (λ o. unwrap_or o (length bytes)) (cond-true _ (Some (position_or_len q bytes)) None (lt-ltb _ _ l))
      | inr l ↦
          let e : length bytes ≡ position_or_len q bytes = omega arith in
          ap (λ o. unwrap_or o (length bytes)) (cond-false _ (Some (position_or_len q bytes)) None (le-ltb _ _ l)) ∙ e
    ]

pub leading_within : (class : Class) (bytes : List ℕ) → leading class bytes ≤ length bytes
unfolding leading
leading_within class bytes = prefix_len-le-length (λ b. not (not (in_class class b))) bytes

-- the bytes of a class that stand first from a place on
pub longest_word : (line : List ℕ) (class : Class) (i : ℕ) → i ≤ length line → (n : ℕ) → n ≡ leading class (drop i line) → Longest line class i (take n (drop i line))
unfolding leading
longest_word line class i l n e =
    let xs : List ℕ = drop i line in
    let q : ℕ → Bool = λ b. not (in_class class b) in
    let rest = length-drop i line in
    let few : n ≤ length xs = omega (arith, e, prefix_len-le-length (λ b. not (q b)) xs) in
    let w = take n xs in
    let k : i + n - i ≡ n = omega arith in
    let s : Spans line i (i + n) w = subst (λ m. Spans line i (i + n) (take m xs)) k (spans_between line i (i + n) (omega arith) (omega arith)) in
    let size : length w ≡ n = length-take-le n xs few in
    let at : (k : ℕ) → k < length w → in_class class (get_or w k 0) ≡ true =
    λ k m.
    ap (in_class class) (get_or-take n xs k 0 (omega arith)) ∙ not-false _ (fails_before_first q xs k 0 (omega arith)) in
    record {
      spans = subst (λ m. Spans line i m w) (sym s.end) s;
      all = all_by_each (in_class class) w at;
      stop =
          λ m.
          let here : n < length xs = omega arith in
          ap (in_class class) (sym (get_or-drop i line (length w) 0) ∙ ap (λ k. get_or xs k 0) (size ∙ e))
          ∙ not-true _ (passes_at_first q xs 0 (omega (arith, e)));
    }

-- the bytes from a place on, as the code cuts them
pub rest_is : (line : List ℕ) (i : ℕ) → take (length line - i) (drop i line) ≡ drop i line
rest_is line i = take_all (length line - i) (drop i line) (omega (arith, length-drop i line))
