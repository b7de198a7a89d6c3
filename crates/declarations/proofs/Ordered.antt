-- The order of a closed list of kinds: the five rules, over every number.
use Rattle.std.proofs.Common.{◌≡◌, ℕ, ◌<◌, ◌≤◌, true, ◌&&◌, eqb, ltb, ◌⊎◌, List, length, Some, None, Option, sym, ◌∙◌, subst, inl, inr, arith}
use lib.Bits.{bit_and}
use lib.Count.{count_trailing_zeros}
use Rattle.std.proofs.lemmas.Bool.{and_from, eqb-true, eqb-false, eq-eqb, ne_eqb, lt-ltb, le-ltb, and_left, and_right, cases_lt, cases_eq, cond-true, cond-false, cond_both}
use Rattle.orders.specs.Meaning.{Meaning, IsCommon}
use Rattle.declarations.specs.Declarations.{Declaration, Under, NoWidest, sound}
use Rattle.declarations.specs.Declarations.Under.{itself}
use Rattle.declarations.specs.Rows.{row, rows_of, lowest_in, stray_common, common_in, closed}
use Rattle.declarations.proofs.Grown.{Right, rows_right}
use Rattle.declarations.proofs.Above.{under-through, under_same, under_le, under-any, stray-under}
use Rattle.declarations.proofs.Closing.{nothing-both, meets-widest, closed-meets}

module _ (ds : List Declaration) (ok : sound ds ≡ true) where
  -- where one of the two is past the last kind
  pub strays_common : (a b : ℕ) → (length ds ≤ a) ⊎ (length ds ≤ b) → IsCommon (Under ds) a b (stray_common a b)
  strays_common a b s =
      elim (cases_eq a b) [
        | inl e ↦ rw (cond-true _ (Some a) _ (eq-eqb a b e)) (itself, subst (λ x. Under ds a x) e itself, λ k u v. u)
        | inr ne ↦ rw (cond-false _ (Some a) _ (ne_eqb a b ne)) (elim (cases_eq a 0) [
          | inl e ↦ rw (cond-true _ (Some b) _ (eq-eqb a 0 e)) (rw e (under-any ds ok b), itself, λ k u v. v)
          | inr na ↦ rw (cond-false _ (Some b) _ (ne_eqb a 0 na)) (elim (cases_eq b 0) [
            | inl e ↦ rw (cond-true _ (Some a) None (eq-eqb b 0 e)) (itself, rw e (under-any ds ok a), λ k u v. u)
            | inr nb ↦ rw (cond-false _ (Some a) None (ne_eqb b 0 nb)) (λ k u v. apart k ne na nb u v s)
          ])
        ])
      ]
    where
      -- what is at or under a number past the last kind, other than `any`, is that number
      only : (x k : ℕ) → length ds ≤ x → (x ≡ 0 → ⊥) → Under ds k x → k ≡ x
      only x k g nx u =
          elim (stray-under ds ok k x (omega (arith, under_le ds ok u)) u) [ inl e ↦ sym e | inr e ↦ absurd (nx e) ]

      apart : (k : ℕ) → (a ≡ b → ⊥) → (a ≡ 0 → ⊥) → (b ≡ 0 → ⊥) → Under ds k a → Under ds k b → (length ds ≤ a) ⊎ (length ds ≤ b) → ⊥
      apart k ne na nb u v (inl g) =
          let e = only a k g na u in
          elim (stray-under ds ok k b (omega arith) v) [ inl f ↦ ne (sym e ∙ sym f) | inr f ↦ nb f ]
      apart k ne na nb u v (inr g) =
          let e = only b k g nb v in
          elim (stray-under ds ok k a (omega arith) u) [ inl f ↦ ne (f ∙ e) | inr f ↦ na f ]

-- an answer that obeys the rule leaves no pair without a widest kind
pub common_not : (ds : List Declaration) (a b : ℕ) (o : Option ℕ) → IsCommon (Under ds) a b o → NoWidest ds a b → ⊥
common_not ds a b (Some c) h n = n.1 c (record { first = h.0; second = h.1; most = h.2 })
common_not ds a b None h n = let (k, u, v) = n.0 in h k u v

module _ (limit : ℕ) (ds : List Declaration) (rows : List ℕ) (ok : sound ds ≡ true) (r : Right ds rows) (few : length ds ≤ limit) (c : closed limit rows ≡ true) where
  kinds-common : (a b : ℕ) → a < length ds → b < length ds → IsCommon (Under ds) a b (lowest_in limit (bit_and (row rows a) (row rows b)))
  kinds-common a b l m =
      cond_both (eqb (bit_and (row rows a) (row rows b)) 0) None (Some (count_trailing_zeros limit (bit_and (row rows a) (row rows b)))) (IsCommon (Under ds) a b)
      (λ t. nothing-both limit ds rows ok r few a b l m (eqb-true _ _ t))
      (λ f.
      let meet = closed-meets limit rows c a b (omega (arith, r.size)) (omega (arith, r.size)) in
      let w = meets-widest limit ds rows ok r few a b l m meet (eqb-false _ _ f) in
      (w.first, w.second, w.most))

  pub common_holds : (a b : ℕ) → IsCommon (Under ds) a b (common_in limit rows a b)
  common_holds a b =
      let s = r.size in
      elim (cases_lt a (length ds)) [
        | inl l ↦ elim (cases_lt b (length ds)) [
          | inl m ↦ rw (cond-true (ltb a (length rows) && ltb b (length rows)) (lowest_in limit (bit_and (row rows a) (row rows b))) (stray_common a b) (and_from _ _ (lt-ltb a (length rows) (omega arith)) (lt-ltb b (length rows) (omega arith)))) (kinds-common a b l m)
          | inr m ↦ rw (cond-false (ltb a (length rows) && ltb b (length rows)) (lowest_in limit (bit_and (row rows a) (row rows b))) (stray_common a b) (and_right _ _ (le-ltb b (length rows) (omega arith)))) (strays_common ds ok a b (inr m))
        ]
        | inr l ↦ rw (cond-false (ltb a (length rows) && ltb b (length rows)) (lowest_in limit (bit_and (row rows a) (row rows b))) (stray_common a b) (and_left _ _ (le-ltb a (length rows) (omega arith)))) (strays_common ds ok a b (inl l))
      ]

-- the meaning of sound declarations whose rows are closed
abbrev pub order_of : (limit : ℕ) (ds : List Declaration) → sound ds ≡ true → length ds ≤ limit → closed limit (rows_of ds) ≡ true → Meaning ℕ
order_of limit ds ok few c =
    record {
      under = Under ds;
      widest = 0;
      common = common_in limit (rows_of ds);
      itself = λ k. itself;
      widest_is = under-any ds ok;
      through = λ k l m u v. under-through ds u v;
      same = under_same ds ok;
      common_is = common_holds limit ds (rows_of ds) ok (rows_right ds ok) few c;
    }
