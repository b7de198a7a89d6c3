-- Where a line is against the grammar, and where it is past the limits.
use Rattle.std.proofs.Common.{◌≡◌, ℕ, ◌+◌, ◌<◌, ◌≤◌, false, List, length, get_or, take, drop, Some, None, sym, refl, ap, ◌∙◌, inl, inr, arith}
use Rattle.std.proofs.lemmas.List.{take_all, take-append-drop}
use Rattle.std.proofs.lemmas.Bool.{both_ways, cases_lt}
use Rattle.refusals.specs.Places.{GoesOn, Breaks}
use Rattle.grammar.specs.Trees.{Tree, written, no_limits, limits, LawfulTree}
use Rattle.grammar.specs.Lines.{Grammar, Limited, PastLimits}
use Rattle.grammar.specs.Scanner.{State, start, step, runs, accepting, here}
use Rattle.grammar.proofs.Scanning.{runs-more, runs_earlier, runs_later, unlimited, down_no_limits, down_limits}
use Rattle.grammar.proofs.Walking.{stuck, written_accepts}
use Rattle.grammar.proofs.Completing.{goes_on}

-- up to where the run within the limits leads, lines within the limits go on
within-here : (line : List ℕ) (i q : ℕ) (s : State) → here line i ≡ Some s → q ≤ i → GoesOn Limited (take q line)
within-here line i q s e l = let (p, h) = runs_earlier limits line q i s l e in goes_on limits refl (take q line) p h

grammar_here : (line : List ℕ) (i : ℕ) (s : State) → here line i ≡ Some s → GoesOn Grammar (take i line)
grammar_here line i s e = goes_on no_limits refl (take i line) s (unlimited start (take i line) s e)

pub breaks-here : (line : List ℕ) (i : ℕ) (s : State) → i < length line → here line i ≡ Some s
    → step no_limits s (get_or line i 0) ≡ None → Breaks Grammar line i × (PastLimits line → ⊥)
breaks-here line i s l e n =
    let none : runs no_limits start (take (i + 1) line) ≡ None = runs-more no_limits line i s None l (unlimited start (take i line) s e) n in
    ((grammar_here line i s e, inl (l, stuck no_limits down_no_limits (take (i + 1) line) none)), λ past. not_past none past)
  where
    not_past : runs no_limits start (take (i + 1) line) ≡ None → PastLimits line → ⊥
    not_past none past =
        let (q, m, g, w) = past in
        elim (cases_lt i q) [
          | inl h ↦ stuck no_limits down_no_limits (take q line) (runs_later no_limits line (i + 1) q (omega arith) none) g
          | inr h ↦ w (within-here line i q s e h)
        ]

pub breaks-end : (line : List ℕ) (s : State) → here line (length line) ≡ Some s → accepting s ≡ false
    → Breaks Grammar line (length line) × (PastLimits line → ⊥)
breaks-end line s e a =
    let whole : take (length line) line ≡ line = take_all (length line) line (omega arith) in
    let runs-whole : runs no_limits start line ≡ Some s = ap (runs no_limits start) (sym whole) ∙ unlimited start (take (length line) line) s e in (
      (grammar_here line (length line) s e, inr (refl, λ w. both_ways (accepting s) a (written_accepts no_limits down_no_limits line s w runs-whole))),
      λ past. let (q, m, g, w) = past in w (within-here line (length line) q s e m),
    )

pub past_here : (line : List ℕ) (i : ℕ) (s q : State) → i < length line → here line i ≡ Some s → step limits s (get_or line i 0) ≡ None
    → step no_limits s (get_or line i 0) ≡ Some q → PastLimits line
past_here line i s q l e n f = (
  i + 1,
  omega arith,
  goes_on no_limits refl (take (i + 1) line) q (runs-more no_limits line i s (Some q) l (unlimited start (take i line) s e) f),
  stuck limits down_limits (take (i + 1) line) (runs-more limits line i s None l e n),
)

pub lawful-within : (line : List ℕ) (t : Tree) → LawfulTree limits 0 t → written t ≡ line → PastLimits line → ⊥
lawful-within line t l e past =
    let (q, m, g, w) = past in
    w (drop q line, (t, l, e ∙ sym (take-append-drop q line)))
