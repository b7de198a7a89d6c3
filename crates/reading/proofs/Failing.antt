-- Where a line breaks, and the refusal for it.
use Rattle.std.proofs.Common.{◌≡◌, ℕ, suc, ◌+◌, ◌<◌, ◌≤◌, false, eqb, List, [], ◌∷◌, length, get_or, Some, None, sym, refl, ap, ◌∙◌, subst, inl, inr, arith}
use Rattle.std.proofs.lemmas.Bool.{cases_lt, cond-true, cond-false}
use Rattle.refusals.specs.declared.Refusal.TheVariants.{Limit, Grammar}
use Rattle.grammar.specs.Scanner.{State, state, comma, closed, step, accepting, here}
use Rattle.grammar.specs.Trees.{limits, no_limits}
use Rattle.grammar.proofs.Breaking.{breaks-here, breaks-end, past_here}
use Rattle.grammar.proofs.Scanning.{runs-more}
use Rattle.reading.specs.declared.reader.Mark.TheVariants.{Comma, Close}
use Rattle.reading.specs.Reading.{byte_at, mark_of, Fails, Ended, Spans}
use Rattle.reading.proofs.Marking.{mark-here, mark_not}
use Rattle.reading.proofs.Spanning.{spans_byte}

pub fails_here : (line : List ℕ) (i : ℕ) (s : State) → i < length line → here line i ≡ Some s → step no_limits s (get_or line i 0) ≡ None → Fails line (Grammar i)
fails_here line i s l e n = let (b, w) = breaks-here line i s l e n in inr (w, i, b, refl)

pub fails_end : (line : List ℕ) (i : ℕ) (s : State) → i ≡ length line → here line i ≡ Some s → accepting s ≡ false → Fails line (Grammar i)
fails_end line i s is e a =
    let (b, w) = breaks-end line s (ap (here line) (sym is) ∙ e) a in
    subst (λ n. Fails line (Grammar n)) (sym is) (inr (w, length line, b, refl))

-- whether the byte is there or not
pub fails_at : (line : List ℕ) (i : ℕ) (s : State) → i ≤ length line → here line i ≡ Some s → (i < length line → step no_limits s (get_or line i 0) ≡ None) → accepting s ≡ false → Fails line (Grammar i)
fails_at line i s l e n a =
    elim (cases_lt i (length line)) [
      | inl h ↦ fails_here line i s h e (n h)
      | inr h ↦ fails_end line i s (omega arith) e a
    ]

pub fails_limit : (line : List ℕ) (i : ℕ) (s q : State) → i < length line → here line i ≡ Some s → step limits s (get_or line i 0) ≡ None → step no_limits s (get_or line i 0) ≡ Some q → Fails line (Limit 0)
fails_limit line i s q l e n m = inl (past_here line i s q l e n m, refl)

-- after an item
module _ (line : List ℕ) (i d : ℕ) (g : Ended line i (suc d)) where
  pub next_item : mark_of (byte_at line i) ≡ Comma → Spans line i (i + 1) (44 ∷ []) × (here line (i + 1) ≡ Some (state comma (suc d)))
  next_item e =
      let (l, b) = mark-here line i Comma 44 e refl in
      (spans_byte line i 44 l b, runs-more limits line i _ _ l g.state_is (g.closes limits l ∙ cond-true _ _ _ (ap (λ x. eqb x 44) b)))

  pub list_end : mark_of (byte_at line i) ≡ Close → Spans line i (i + 1) (41 ∷ []) × (here line (i + 1) ≡ Some (state closed d))
  list_end e =
      let (l, b) = mark-here line i Close 41 e refl in (
        spans_byte line i 41 l b,
        runs-more limits line i _ _ l g.state_is
            (g.closes limits l ∙ cond-false _ _ _ (ap (λ x. eqb x 44) b) ∙ cond-true _ _ _ (ap (λ x. eqb x 41) b)),
      )

  pub no_item : i ≤ length line → (mark_of (byte_at line i) ≡ Comma → ⊥) → (mark_of (byte_at line i) ≡ Close → ⊥) → Fails line (Grammar i)
  no_item w c e =
      fails_at line i _ w g.state_is
      (λ l. g.closes no_limits l ∙ cond-false _ _ _ (mark_not line i Comma 44 c refl l) ∙ cond-false _ _ _ (mark_not line i Close 41 e refl l))
      (g.inside (omega arith))
