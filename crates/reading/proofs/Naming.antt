-- A name at the front of a term: whole, too long, or with a colon after it.
use Rattle.std.proofs.Common.{◌≡◌, ℕ, suc, ◌+◌, ◌<◌, ◌≤◌, true, false, eqb, List, [], ◌∷◌, ◌++◌, length, get_or, Some, refl, ap, ◌∙◌, inl, arith}
use Rattle.std.proofs.lemmas.Bool.{cond-true, cond-false, le-leb, or_left, ne_eqb}
use Rattle.refusals.specs.declared.Refusal.{Refusal}
use Rattle.refusals.specs.Table.{row}
use Rattle.grammar.specs.Scanner.{Part, state, begin, in_name, colon, step, kept_if, here}
use Rattle.grammar.specs.Trees.{Limits, limits, LawfulLabel}
use Rattle.grammar.specs.Words.{capital, name_letter}
use Rattle.grammar.proofs.Scanning.{runs-more}
use Rattle.reading.specs.declared.reader.Class.TheVariants.{Name}
use Rattle.reading.specs.declared.reader.Mark.TheVariants.{Colon}
use Rattle.reading.specs.Reading.{byte_at, mark_of, in_class, Spans, Longest, Fails, Ended, AtKind}
use Rattle.reading.proofs.Spanning.{spans_byte, spans_join}
use Rattle.reading.proofs.Heading.{spans_at, word-from, longest_some, here-word, long-word}
use Rattle.reading.proofs.Marking.{mark-here, mark_not}

-- a kind text goes on from where no other byte does
pub inside_only : (p : Part) (d : ℕ) → 0 < d → eqb d 0 ≡ false
inside_only p d l = ne_eqb d 0 (λ e. omega arith)

module _ (line : List ℕ) (i d : ℕ) (w : List ℕ) (at : here line i ≡ Some (state begin d)) (l : i < length line) (head : capital (get_or line i 0) ≡ true) (g : Longest line Name i w) where
  begins : (L : Limits) (b : ℕ) → capital b ≡ true → step L (state begin d) b ≡ kept_if (L.word 1) (state (in_name 1) d)
  begins L b h = cond-true _ _ _ h

  goes : (L : Limits) (n b : ℕ) → in_class Name b ≡ true → step L (state (in_name n) d) b ≡ kept_if (L.word (suc n)) (state (in_name (suc n)) d)
  goes L n b h = cond-true _ _ _ h

  some : 0 < length w
  some = longest_some line Name i w g l (or_left (capital (get_or line i 0)) _ head)

  first_byte : get_or w 0 0 ≡ get_or line i 0
  first_byte = let e : i + 0 ≡ i = omega arith in spans_at line i _ w 0 g.spans some ∙ ap (λ n. get_or line n 0) e

  pub name-long : (e : Refusal) → 24 < length w → row e ≡ record { number = 1; values = 0 ∷ [] } → Fails line e
  name-long e m r = inl (long-word Name capital (state begin d) (λ n. state (in_name n) d) begins goes line i w at g some head m, r)

  module _ (short : length w ≤ 24) where
    pub name-lawful : LawfulLabel limits (Some w)
    name-lawful = (word-from capital name_letter w some (ap capital first_byte ∙ head) g.all, le-leb (length w) 24 short)

    after : here line (i + length w) ≡ Some (state (in_name (length w)) d)
    after = here-word Name capital (state begin d) (λ n. state (in_name n) d) begins goes line i w at g some head short

    pub name-ends : (mark_of (byte_at line (i + length w)) ≡ Colon → ⊥) → Ended line (i + length w) d
    name-ends ne =
        record {
          last = in_name (length w);
          state_is = after;
          closes = λ L m. cond-false _ _ _ (g.stop m) ∙ cond-false _ _ _ (mark_not line (i + length w) Colon 58 ne refl m);
          inside = λ m. inside_only begin d m;
        }

    pub name-colon : mark_of (byte_at line (i + length w)) ≡ Colon → Spans line i (i + length w + 1) (w ++ 58 ∷ []) × AtKind line (i + length w + 1) d
    name-colon e =
        let (m, b) = mark-here line (i + length w) Colon 58 e refl in
        let s : step limits (state (in_name (length w)) d) (get_or line (i + length w) 0) ≡ Some (state colon d) =
        cond-false _ _ _ (g.stop m) ∙ cond-true _ _ _ (ap (λ x. eqb x 58) b) in (
          spans_join g.spans (spans_byte line (i + length w) 58 m b),
          record {
            last = colon;
            state_is = runs-more limits line (i + length w) _ _ m after s;
            goes = λ L c h. cond-true _ _ _ h;
            breaks = λ k h. cond-false _ _ _ h;
            open_end = refl;
          },
        )
