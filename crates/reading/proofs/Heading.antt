-- The scanner over words: where a name or a feature leads, and where one is too long.
use Rattle.std.proofs.Common.{◌≡◌, ℕ, zero, suc, ◌+◌, ◌-◌, ◌<◌, ◌≤◌, Bool, true, List, [], ◌∷◌, length, get_or, take, drop, Some, Option, sym, refl, ap, ◌∙◌, subst, arith}
use Rattle.std.proofs.lemmas.List.{length-take-le, get_or-take, get_or-drop, take-take}
use Rattle.std.proofs.lemmas.Bool.{and_parts, and_from, cond-true, le-leb, false≢true}
use Rattle.grammar.specs.Lines.{PastLimits}
use Rattle.grammar.specs.Scanner.{State, step, start, runs, kept_if, here}
use Rattle.grammar.specs.Trees.{Limits, limits, no_limits}
use Rattle.grammar.specs.Words.{all_by, is_word}
use Rattle.grammar.proofs.Breaking.{past_here}
use Rattle.scanning.proofs.Runs.{onward, runs_append, runs_none}
use Rattle.grammar.proofs.Scanning.{runs-first}
use Rattle.reading.specs.declared.reader.Class.{Class}
use Rattle.reading.specs.Reading.{in_class, Spans, Longest}
use Rattle.reading.proofs.Spanning.{spans-part, spans_between}

-- where the bytes of a part lead
pub here_over : (line : List ℕ) (i j : ℕ) (w : List ℕ) (s : State) (o : Option State) → Spans line i j w → here line i ≡ Some s → runs limits s w ≡ o → here line j ≡ o
here_over line i j w s o p e r = ap (runs limits start) p.bytes ∙ runs_append (step limits) start (take i line) w ∙ ap (λ x. onward (step limits) x w) e ∙ r

pub all_by_at : (p : ℕ → Bool) (xs : List ℕ) (k : ℕ) → all_by p xs ≡ true → k < length xs → p (get_or xs k 0) ≡ true
unfolding all_by
all_by_at p [] k a l = absurd (omega arith)
all_by_at p (x ∷ xs) zero a l = (and_parts (p x) _ a).0
all_by_at p (x ∷ xs) (suc k) a l = all_by_at p xs k (and_parts (p x) _ a).1 (omega arith)

pub all_by_front : (p : ℕ → Bool) (n : ℕ) (xs : List ℕ) → all_by p xs ≡ true → all_by p (take n xs) ≡ true
unfolding all_by
all_by_front p zero xs a = refl
all_by_front p (suc n) [] a = refl
all_by_front p (suc n) (x ∷ xs) a = let (h, t) = and_parts (p x) _ a in and_from (p x) _ h (all_by_front p n xs t)

pub word-from : (first other : ℕ → Bool) (w : List ℕ) → 0 < length w → first (get_or w 0 0) ≡ true → all_by other w ≡ true → is_word first other w ≡ true
unfolding all_by
word-from first other [] l h a = absurd (omega arith)
word-from first other (b ∷ bs) l h a = and_from (first b) _ h (and_parts (other b) _ a).1

pub spans_at : (line : List ℕ) (i j : ℕ) (w : List ℕ) (k : ℕ) → Spans line i j w → k < length w → get_or w k 0 ≡ get_or line (i + k) 0
spans_at line i j w k s l =
    ap (λ x. get_or x k 0) (sym (spans-part line i j w s)) ∙ get_or-take (length w) (drop i line) k 0 l ∙ get_or-drop i line k 0

pub spans-front : (line : List ℕ) (i j : ℕ) (w : List ℕ) (n : ℕ) → Spans line i j w → n ≤ length w → Spans line i (i + n) (take n w)
spans-front line i j w n s l =
    let e : i + n - i ≡ n = omega arith in
    let p = spans_between line i (i + n) (omega arith) (omega (arith, s.end, s.within)) in
    let is : take (i + n - i) (drop i line) ≡ take n w =
    ap (λ k. take k (drop i line)) e ∙ sym (take-take n (length w) (drop i line) l) ∙ ap (take n) (spans-part line i j w s) in
    subst (Spans line i (i + n)) is p

-- a longest word that begins with a byte of its class has one byte or more
pub longest_some : (line : List ℕ) (class : Class) (i : ℕ) (w : List ℕ) → Longest line class i w → i < length line → in_class class (get_or line i 0) ≡ true → 0 < length w
longest_some line class i [] g l h =
    let e : i + 0 ≡ i = omega arith in
    absurd (false≢true (sym (g.stop (omega arith)) ∙ ap (λ n. in_class class (get_or line n 0)) e ∙ h))
longest_some line class i (b ∷ bs) g l h = omega arith

-- a class of words with a limit: `from` is the state before one, `in-word n` that after n bytes of it
module _ (class : Class) (first : ℕ → Bool) (from : State) (in-word : ℕ → State)
    (begins : (L : Limits) (b : ℕ) → first b ≡ true → step L from b ≡ kept_if (L.word 1) (in-word 1))
    (goes : (L : Limits) (n b : ℕ) → in_class class b ≡ true → step L (in-word n) b ≡ kept_if (L.word (suc n)) (in-word (suc n))) where
  run_on : (n : ℕ) (w : List ℕ) → all_by (in_class class) w ≡ true → n + length w ≤ 24 → runs limits (in-word n) w ≡ Some (in-word (n + length w))
  unfolding all_by
  run_on n [] a l = runs_none (step limits) (in-word n) ∙ ap (λ k. Some (in-word k)) (e n)
    where
      e : (m : ℕ) → m ≡ m + 0
      e m = omega arith
  run_on n (b ∷ bs) a l =
      let (h, t) = and_parts (in_class class b) _ a in
      let e : suc n + length bs ≡ n + suc (length bs) = omega arith in
      runs-first limits (in-word n) b bs (Some (in-word (suc n))) (goes limits n b h ∙ cond-true _ _ _ (le-leb (suc n) 24 (omega arith)))
      ∙ run_on (suc n) bs t (omega arith) ∙ ap (λ k. Some (in-word k)) e

  run_word : (w : List ℕ) → 0 < length w → first (get_or w 0 0) ≡ true → all_by (in_class class) w ≡ true → length w ≤ 24 → runs limits from w ≡ Some (in-word (length w))
  unfolding all_by
  run_word [] s h a l = absurd (omega arith)
  run_word (b ∷ bs) s h a l =
      let e : 1 + length bs ≡ suc (length bs) = omega arith in
      runs-first limits from b bs (Some (in-word 1)) (begins limits b h)
      ∙ run_on 1 bs (and_parts (in_class class b) _ a).1 (omega arith) ∙ ap (λ k. Some (in-word k)) e

  module _ (line : List ℕ) (i : ℕ) (w : List ℕ) (at : here line i ≡ Some from) (g : Longest line class i w) (some : 0 < length w) (head : first (get_or line i 0) ≡ true) where
    first_is : first (get_or w 0 0) ≡ true
    first_is = ap first (spans_at line i _ w 0 g.spans some ∙ ap (λ n. get_or line n 0) e) ∙ head
      where
        e : i + 0 ≡ i
        e = omega arith

    pub here-word : length w ≤ 24 → here line (i + length w) ≡ Some (in-word (length w))
    here-word l = here_over line i _ w from _ g.spans at (run_word w some first_is g.all l)

    pub long-word : 24 < length w → PastLimits line
    long-word l =
        let size : length (take 24 w) ≡ 24 = length-take-le 24 w (omega arith) in
        let part = spans-front line i _ w 24 g.spans (omega arith) in
        let short : 0 < 24 = omega arith in
        let f : first (get_or (take 24 w) 0 0) ≡ true = ap first (get_or-take 24 w 0 0 short) ∙ first_is in
        let run = run_word (take 24 w) (omega arith) f (all_by_front (in_class class) 24 w g.all) (omega arith) in
        let at-limit : here line (i + 24) ≡ Some (in-word 24) = here_over line i _ (take 24 w) from _ part at run ∙ ap (λ k. Some (in-word k)) size in
        let b : in_class class (get_or line (i + 24) 0) ≡ true =
        ap (in_class class) (sym (spans_at line i _ w 24 g.spans l)) ∙ all_by_at (in_class class) w 24 g.all l in
        past_here line (i + 24) (in-word 24) (in-word 25) (omega (arith, g.spans.within)) at-limit (goes limits 24 _ b) (goes no_limits 24 _ b)
