-- A feature and its arrow.
use Rattle.std.proofs.Common.{◌≡◌, ℕ, suc, ◌+◌, ◌<◌, ◌≤◌, true, false, eqb, List, [], ◌∷◌, length, get_or, Some, sym, refl, ap, ◌∙◌, subst, inl, arith}
use Rattle.std.proofs.lemmas.Bool.{cond-true, cond-false, or_left}
use Rattle.declarations.specs.Names.{letter, name_byte}
use Rattle.refusals.specs.declared.Refusal.{Refusal}
use Rattle.refusals.specs.declared.Refusal.TheVariants.{Grammar}
use Rattle.refusals.specs.Table.{row}
use Rattle.grammar.specs.Scanner.{state, begin, comma, in_feature, equals, step, kept_if, here}
use Rattle.grammar.specs.Trees.{Limits, limits}
use Rattle.grammar.specs.Words.{is_feature}
use Rattle.grammar.proofs.Scanning.{runs-more}
use Rattle.reading.specs.declared.reader.Class.TheVariants.{Feature}
use Rattle.reading.specs.declared.reader.Mark.TheVariants.{Equals, Greater}
use Rattle.reading.specs.Reading.{byte_at, mark_of, in_class, Spans, Longest, Fails}
use Rattle.reading.proofs.Spanning.{spans_byte, spans_join}
use Rattle.reading.proofs.Heading.{spans_at, word-from, longest_some, here-word, long-word}
use Rattle.reading.proofs.Marking.{mark-here, mark_not}
use Rattle.reading.proofs.Failing.{fails_at, fails_here, fails_end}

-- the arrow
module _ (line : List ℕ) (i n d : ℕ) (at : here line i ≡ Some (state (in_feature n) d)) (stop : i < length line → name_byte (get_or line i 0) ≡ false) where
  pub no_equals : i ≤ length line → (mark_of (byte_at line i) ≡ Equals → ⊥) → Fails line (Grammar i)
  no_equals w ne =
      fails_at line i _ w at (λ l. cond-false _ _ _ (stop l) ∙ cond-false _ _ _ (mark_not line i Equals 61 ne refl l)) refl

  module _ (e : mark_of (byte_at line i) ≡ Equals) where
    half : Spans line i (i + 1) (61 ∷ []) × (here line (i + 1) ≡ Some (state equals d))
    half =
        let (l, b) = mark-here line i Equals 61 e refl in
        (spans_byte line i 61 l b, runs-more limits line i _ _ l at (cond-false _ _ _ (stop l) ∙ cond-true _ _ _ (ap (λ x. eqb x 61) b)))

    pub no_greater : (mark_of (byte_at line (i + 1)) ≡ Greater → ⊥) → Fails line (Grammar (i + 1))
    no_greater ne =
        fails_at line (i + 1) _ half.0.within half.1 (λ l. cond-false _ _ _ (mark_not line (i + 1) Greater 62 ne refl l)) refl

    pub whole_arrow : mark_of (byte_at line (i + 1)) ≡ Greater → Spans line i (i + 2) (61 ∷ 62 ∷ []) × (here line (i + 2) ≡ Some (state begin d))
    whole_arrow f =
        let (l, b) = mark-here line (i + 1) Greater 62 f refl in
        let two : i + 1 + 1 ≡ i + 2 = omega arith in
        let h = runs-more limits line (i + 1) _ _ l half.1 (cond-true _ _ _ (ap (λ x. eqb x 62) b)) in (
          subst (λ k. Spans line i k (61 ∷ 62 ∷ [])) two (spans_join half.0 (spans_byte line (i + 1) 62 l b)),
          ap (here line) (sym two) ∙ h,
        )

module _ (line : List ℕ) (i d : ℕ) (at : here line i ≡ Some (state comma d)) where
  pub no_byte : length line ≤ i → i ≤ length line → Fails line (Grammar i)
  no_byte a b = fails_end line i _ (omega arith) at refl

  pub no_letter : i < length line → letter (get_or line i 0) ≡ false → Fails line (Grammar i)
  no_letter l h = fails_here line i _ l at (cond-false _ _ _ h)

  module _ (w : List ℕ) (l : i < length line) (head : letter (get_or line i 0) ≡ true) (g : Longest line Feature i w) where
    begins : (L : Limits) (b : ℕ) → letter b ≡ true → step L (state comma d) b ≡ kept_if (L.word 1) (state (in_feature 1) d)
    begins L b h = cond-true _ _ _ h

    goes : (L : Limits) (n b : ℕ) → in_class Feature b ≡ true → step L (state (in_feature n) d) b ≡ kept_if (L.word (suc n)) (state (in_feature (suc n)) d)
    goes L n b h = cond-true _ _ _ h

    some : 0 < length w
    some = longest_some line Feature i w g l (or_left (letter (get_or line i 0)) _ head)

    first_byte : get_or w 0 0 ≡ get_or line i 0
    first_byte = let e : i + 0 ≡ i = omega arith in spans_at line i _ w 0 g.spans some ∙ ap (λ n. get_or line n 0) e

    pub feature_long : (e : Refusal) → 24 < length w → row e ≡ record { number = 1; values = 0 ∷ [] } → Fails line e
    feature_long e m r = inl (long-word Feature letter (state comma d) (λ n. state (in_feature n) d) begins goes line i w at g some head m, r)

    pub feature_lawful : is_feature w ≡ true
    feature_lawful = word-from letter name_byte w some (ap letter first_byte ∙ head) g.all

    pub feature_here : length w ≤ 24 → here line (i + length w) ≡ Some (state (in_feature (length w)) d)
    feature_here short = here-word Feature letter (state comma d) (λ n. state (in_feature n) d) begins goes line i w at g some head short
