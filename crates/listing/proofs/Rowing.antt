-- Statements shown one by one.
use Rattle.std.proofs.Common.{◌≡◌, ℕ, ◌+◌, ◌-◌, ◌<◌, ◌≤◌, List, [], ◌∷◌, ◌++◌, length, drop, Some, Option, nat_lt, subst, sym, refl, ap, ◌∙◌, append_assoc, append-nil, arith}
use Rattle.std.proofs.lemmas.List.{at_drop_more, at_drop_all, length-map}
use Rattle.std.proofs.lemmas.Bool.{cond-true, lt-ltb}
use Rattle.orders.specs.Texts.{Texts}
use Rattle.grammar.specs.declared.statement.Statement.{Statement}
use Rattle.grammar.specs.declared.statement.Said.{Said}
use Rattle.grammar.specs.Lawful.{statements}
use Rattle.terms.specs.Terms.{From1}
use Rattle.listing.specs.Shown.{row_shown, line_shown, later_shown, said_shown}

module _ {K : Type 0} (m : Texts K) (features : List (List ℕ)) where
  -- statements with the numbers from n on
  unfoldable pub rows_shown : ℕ → List (Statement K) → List ℕ
  rows_shown n [] = []
  rows_shown n (s ∷ ss) = line_shown m features n s ++ rows_shown (n + 1) ss

  -- from the second on, a line feed stands before each
  rows-later : (n : ℕ) (ss : List (Statement K)) → 1 < n → rows_shown n ss ≡ later_shown m features n ss
  unfolding rows_shown later_shown
  rows-later n [] h = refl
  rows-later n (s ∷ ss) h =
      let row = row_shown m features n s in
      let feed = cond-true (nat_lt 1 n) (10 ∷ row) row (lt-ltb 1 n h) in
      ap (λ r. r ++ rows_shown (n + 1) ss) feed ∙ ap (λ r. 10 ∷ (row ++ r)) (rows-later (n + 1) ss (omega arith))

  -- the text so far, and the statements from n on that are still to be added, make the whole
  pub record Adding (us : List (Said K)) (n : ℕ) (text whole : List ℕ) : Type 0 where
    pub is : text ++ rows_shown n (drop (n - 1) (statements us)) ≡ whole

  pub rows_first : (us : List (Said K)) (text : List ℕ) (count : ℕ)
      → count ≡ length us → (count ≡ 0 → ⊥) → Adding us 1 text (text ++ said_shown m features (statements us))
  unfolding rows_shown
  rows_first [] text count e h = absurd (h e)
  rows_first (u ∷ us) text count e h =
      record { is = ap (λ r. text ++ (row_shown m features 1 u.statement ++ r)) (rows-later 2 (statements us) (omega arith)) }

  pub row_more : (us : List (Said K)) (n : ℕ) (s : Statement K) (o : Option (Statement K)) (before after whole : List ℕ)
      → Adding us n before whole → From1 (statements us) n o → o ≡ Some s → after ≡ before ++ line_shown m features n s → Adding us (n + 1) after whole
  unfolding rows_shown
  row_more us n s o before after whole h f g p =
      let ss = statements us in
      let (a, b, e) = subst (From1 ss n) g f in
      let there : n - 1 < length ss = omega arith in
      let next : n + 1 - 1 ≡ n - 1 + 1 = omega arith in
      let later = rows_shown (n + 1) (drop (n - 1 + 1) ss) in
      record {
        is =
            ap (λ k. after ++ rows_shown (n + 1) (drop k ss)) next
            ∙ ap (λ x. x ++ later) p
            ∙ append_assoc before (line_shown m features n s) later
            ∙ ap (λ x. before ++ (line_shown m features n x ++ later)) (sym e)
            ∙ sym (at_drop_more (λ xs. before ++ rows_shown n xs) ss (n - 1) s there)
            ∙ h.is;
      }

  -- none is left
  rows_done : (us : List (Said K)) (n : ℕ) (text whole : List ℕ) → Adding us n text whole → length us < n → text ≡ whole
  unfolding rows_shown
  rows_done us n text whole h l =
      let ss = statements us in
      let many : length ss ≡ length us = length-map us (λ s. s.statement) in
      sym (append-nil text) ∙ sym (at_drop_all (λ xs. text ++ rows_shown n xs) ss (n - 1) (omega arith)) ∙ h.is

  -- the last statement
  pub row_last : (us : List (Said K)) (n : ℕ) (s : Statement K) (o : Option (Statement K)) (before after whole : List ℕ)
      → Adding us n before whole → From1 (statements us) n o → o ≡ Some s → after ≡ before ++ line_shown m features n s → length us ≤ n → after ≡ whole
  row_last us n s o before after whole h f g p l = rows_done us (n + 1) after whole (row_more us n s o before after whole h f g p) (omega arith)
