-- What the scanner accepts is the writing of a lawful tree, and from every state that it reaches some such writing goes on.
use Rattle.std.proofs.Common.{◌≡◌, ℕ, zero, suc, ◌+◌, true, false, eqb, List, [], ◌∷◌, ◌++◌, Some, None, Option, sym, refl, ap, ◌∙◌, subst, inl, arith}
use Rattle.std.proofs.lemmas.List.{append-nil}
use Rattle.std.proofs.lemmas.Bool.{both_ways, cond-true, eqb-true}
use Rattle.std.proofs.lemmas.Option.{none-some}
use Rattle.refusals.specs.Places.{GoesOn}
use Rattle.grammar.specs.Words.{all_by}
use Rattle.grammar.specs.Trees.{none, written, Limits, LawfulTree, Written}
use Rattle.grammar.specs.Scanner.{Part, begin, in_name, colon, in_kind, comma, in_feature, equals, closed, State, state, start, step, runs, accepting}
use Rattle.grammar.proofs.Scanning.{runs-first, runs_join}
use Rattle.scanning.proofs.Runs.{runs_none}
use Rattle.grammar.proofs.Walking.{ended, at_close, ended_accepts}
use Rattle.grammar.proofs.Remaining.{Tail, Rest}
use Rattle.grammar.proofs.Backward.{back}

-- the bytes lead to the end of a line
abbrev pub Accepted : Limits → State → List ℕ → Type 0
Accepted L s bs = (q : State) × (runs L s bs ≡ Some q) × (accepting q ≡ true)

module _ (L : Limits) where
  tail-end : (d : ℕ) → eqb d 0 ≡ true → Tail L d []
  tail-end d e = subst (λ x. Tail L x []) (sym (eqb-true d 0 e)) refl

  at_end : (s : State) → accepting s ≡ true → Rest L s []
  unfolding written LawfulTree all_by
  at_end (state begin d) a = absurd (both_ways false refl a)
  at_end (state (in_name n) d) a =
      let same : n + 0 ≡ n = omega arith in
      λ g. ([], [], refl, ap L.word same ∙ g, refl, inl (tail-end d a))
  at_end (state colon d) a = absurd (both_ways false refl a)
  at_end (state in_kind d) a = ([], [], refl, refl, (none, [], tt, refl, tail-end d a))
  at_end (state comma d) a = absurd (both_ways false refl a)
  at_end (state (in_feature n) d) a = absurd (both_ways false refl a)
  at_end (state equals d) a = absurd (both_ways false refl a)
  at_end (state closed d) a = tail-end d a

  rest : (s : State) (bs : List ℕ) → Accepted L s bs → Rest L s bs
  rest s [] h =
      let (q, e, a) = h in
      let same : Some s ≡ Some q = sym (runs_none (step L) s) ∙ e in
      let is : q ≡ s = cc in
      at_end s (subst (λ x. accepting x ≡ true) is a)
  rest s (b ∷ bs) h = by_result (step L s b) refl (λ p. rest p bs)
    where
      by_result : (o : Option State) → step L s b ≡ o → ((p : State) → Accepted L p bs → Rest L p bs) → Rest L s (b ∷ bs)
      by_result (Some p) e next = back L s b bs p e (next p (h.0, sym (runs-first L s b bs (Some p) e) ∙ h.1, h.2))
      by_result None e next = absurd (none-some h.0 (sym (runs-first L s b bs None e) ∙ h.1))

  pub accepted_written : (line : List ℕ) (s : State) → runs L start line ≡ Some s → accepting s ≡ true → Written L line
  accepted_written line s e a =
      let (t, after, l, at, out) = rest start line (s, e, a) in
      (t, l, sym (at ∙ ap (λ x. written t ++ x) out ∙ append-nil (written t)))

  -- every list that is open can be closed
  close_all : (d : ℕ) (p : Part) → ended p ≡ true → (bs : List ℕ) × Accepted L (state p d) bs
  close_all zero p e = ([], (state p 0, runs_none (step L) (state p 0), ended_accepts p e))
  close_all (suc d) p e =
      let (bs, (q, h, a)) = close_all d closed refl in
      (41 ∷ bs, (q, runs-first L (state p (suc d)) 41 bs (Some (state closed d)) (at_close L p d e) ∙ h, a))

  -- by one byte more
  by_byte : (s : State) (b : ℕ) (q : State) → step L s b ≡ Some q → ((bs : List ℕ) × Accepted L q bs) → (bs : List ℕ) × Accepted L s bs
  by_byte s b q e h = let (bs, (p, f, a)) = h in (b ∷ bs, (p, runs-first L s b bs (Some q) e ∙ f, a))

  live_term : (d : ℕ) → (bs : List ℕ) × Accepted L (state begin d) bs
  live_term d = by_byte (state begin d) 97 (state in_kind d) refl (close_all d in_kind refl)

  live_equals : (d : ℕ) → (bs : List ℕ) × Accepted L (state equals d) bs
  live_equals d = by_byte (state equals d) 62 (state begin d) refl (live_term d)

  live_feature : (n d : ℕ) → (bs : List ℕ) × Accepted L (state (in_feature n) d) bs
  live_feature n d = by_byte (state (in_feature n) d) 61 (state equals d) refl (live_equals d)

  live : L.word 1 ≡ true → (s : State) → (bs : List ℕ) × Accepted L s bs
  live one (state begin d) = live_term d
  live one (state (in_name n) d) = close_all d (in_name n) refl
  live one (state colon d) = by_byte (state colon d) 97 (state in_kind d) refl (close_all d in_kind refl)
  live one (state in_kind d) = close_all d in_kind refl
  live one (state comma d) = by_byte (state comma d) 97 (state (in_feature 1) d) (cond-true _ _ None one) (live_feature 1 d)
  live one (state (in_feature n) d) = live_feature n d
  live one (state equals d) = live_equals d
  live one (state closed d) = close_all d closed refl

  pub goes_on : L.word 1 ≡ true → (front : List ℕ) (s : State) → runs L start front ≡ Some s → GoesOn (Written L) front
  goes_on one front s e =
      let (bs, (q, h, a)) = live one s in
      (bs, accepted_written (front ++ bs) q (runs_join L start front bs s (Some q) e h) a)
