-- A kind text, and the list that may open after it.
use Rattle.std.proofs.Common.{◌≡◌, ℕ, suc, ◌+◌, ◌<◌, ◌≤◌, true, false, eqb, leb, List, [], ◌∷◌, length, get_or, Some, sym, refl, ap, ◌∙◌, arith}
use Rattle.std.proofs.lemmas.Bool.{cond-true, cond-false, le-leb, lt-leb, ne_eqb, both_ways, and_parts}
use Rattle.orders.specs.Texts.{text_byte}
use Rattle.refusals.specs.declared.Refusal.TheVariants.{Limit, Grammar}
use Rattle.grammar.specs.Scanner.{State, state, begin, in_kind, comma, step, runs, here}
use Rattle.grammar.specs.Trees.{Limits, limits, no_limits}
use Rattle.grammar.specs.Words.{all_by, is_text, capital}
use Rattle.grammar.proofs.Scanning.{runs-more, runs-first, run_kind}
use Rattle.grammar.proofs.Walking.{capital-apart}
use Rattle.reading.specs.declared.reader.Class.TheVariants.{Kind}
use Rattle.reading.specs.declared.reader.Mark.TheVariants.{Open}
use Rattle.reading.specs.Reading.{byte_at, mark_of, Spans, Longest, Fails, Ended, AtKind}
use Rattle.reading.proofs.Spanning.{spans_byte}
use Rattle.reading.proofs.Heading.{here_over, word-from, all_by_at}
use Rattle.reading.proofs.Marking.{mark-here, mark_not}
use Rattle.reading.proofs.Failing.{fails_at, fails_here, fails_end, fails_limit}

-- at the front of a term without a name
module _ (line : List ℕ) (i d : ℕ) (at : here line i ≡ Some (state begin d)) where
  pub no_term : i ≤ length line → length line ≤ i → Fails line (Grammar i)
  no_term a b = fails_end line i _ (omega arith) at refl

  pub no_front : i < length line → capital (get_or line i 0) ≡ false → text_byte (get_or line i 0) ≡ false → Fails line (Grammar i)
  no_front l c t = fails_here line i _ l at (cond-false _ _ _ c ∙ cond-false _ _ _ t)

  pub unnamed : text_byte (get_or line i 0) ≡ true → AtKind line i d
  unnamed t =
      record {
        last = begin;
        state_is = at;
        goes = λ L b h. cond-false _ _ _ (capital-apart b h) ∙ cond-true _ _ _ h;
        breaks = λ l f. absurd (both_ways (text_byte (get_or line i 0)) f t);
        open_end = refl;
      }

module _ (line : List ℕ) (i d : ℕ) (w : List ℕ) (k : AtKind line i d) (g : Longest line Kind i w) where
  pub no_text : i ≤ length line → length w ≡ 0 → Fails line (Grammar i)
  no_text l e =
      let z : i + length w ≡ i = omega arith in
      fails_at line i _ l k.state_is
      (λ m. k.breaks m (ap (λ n. text_byte (get_or line n 0)) (sym z) ∙ g.stop (omega arith))) k.open_end

  module _ (some : 0 < length w) where
    pub text-lawful : is_text w ≡ true
    text-lawful = word-from text_byte text_byte w some (all_by_at text_byte w 0 g.all some) g.all

    over : (v : List ℕ) → 0 < length v → all_by text_byte v ≡ true → runs limits (state k.last d) v ≡ Some (state in_kind d)
    unfolding all_by
    over [] l a = absurd (omega arith)
    over (b ∷ bs) l a =
        let (h, t) = and_parts (text_byte b) _ a in
        runs-first limits (state k.last d) b bs (Some (state in_kind d)) (k.goes limits b h) ∙ run_kind limits d bs t

    after : here line (i + length w) ≡ Some (state in_kind d)
    after = here_over line i _ w _ _ g.spans k.state_is (over w some g.all)

    pub no_list : (mark_of (byte_at line (i + length w)) ≡ Open → ⊥) → Ended line (i + length w) d
    no_list ne =
        record {
          last = in_kind;
          state_is = after;
          closes = λ L m. cond-false _ _ _ (g.stop m) ∙ cond-false _ _ _ (mark_not line (i + length w) Open 40 ne refl m);
          inside = λ m. ne_eqb d 0 (λ e. omega arith);
        }

    module _ (e : mark_of (byte_at line (i + length w)) ≡ Open) where
      opens : (L : Limits) → step L (state in_kind d) (get_or line (i + length w) 0) ≡ Rattle.grammar.specs.Scanner.kept_if (L.open_at (suc d)) (state comma (suc d))
      opens L =
          let (m, b) = mark-here line (i + length w) Open 40 e refl in
          cond-false _ _ _ (g.stop m) ∙ cond-true _ _ _ (ap (λ x. eqb x 40) b)

      pub too_deep : 16 ≤ d → Fails line (Limit 0)
      too_deep deep =
          let (m, b) = mark-here line (i + length w) Open 40 e refl in
          fails_limit line (i + length w) _ _ m after (opens limits ∙ cond-false _ _ _ (lt-leb (suc d) 16 (omega arith))) (opens no_limits)

      pub open_list : d < 16 → Spans line (i + length w) (i + length w + 1) (40 ∷ []) × (here line (i + length w + 1) ≡ Some (state comma (suc d))) × (leb (suc d) 16 ≡ true)
      open_list shallow =
          let (m, b) = mark-here line (i + length w) Open 40 e refl in
          let few = le-leb (suc d) 16 (omega arith) in
          (spans_byte line (i + length w) 40 m b, runs-more limits line (i + length w) _ _ m after (opens limits ∙ cond-true _ _ _ few), few)
