-- The statements that a rule writes, counted one by one.
use Rattle.std.proofs.Common.{◌≡◌, ℕ, suc, ◌+◌, ◌<◌, ◌≤◌, true, false, List, ◌∷◌, length, get_or, drop, ap, arith}
use Rattle.std.proofs.lemmas.List.{drop_all}
use Rattle.std.proofs.lemmas.Bool.{cond-true, cond-false}
use Rattle.grammar.specs.declared.statement.Statement.{Statement}
use Rattle.grammar.specs.declared.statement.Said.{Said}
use Rattle.grammar.specs.Lawful.{statements}
use Rattle.instructions.specs.Codes.{is_root_kind}
use Rattle.compiler.specs.Passing.{written_by_rule}
use Rattle.compiler.proofs.Onward.{left_more}

module _ {K : Type 0} where
  pub written_not : (s : Statement K) (ss : List (Statement K)) → is_root_kind s ≡ true → written_by_rule (s ∷ ss) ≡ written_by_rule ss
  unfolding written_by_rule
  written_not s ss e = cond-true (is_root_kind s) _ _ e

  pub written_too : (s : Statement K) (ss : List (Statement K)) → is_root_kind s ≡ false → written_by_rule (s ∷ ss) ≡ suc (written_by_rule ss)
  unfolding written_by_rule
  written_too s ss e = cond-false (is_root_kind s) _ _ e

  module _ (said : List (Said K)) (i : ℕ) (u : Said K) (l : i < length said) (here : u ≡ get_or said i u) (n m : ℕ) where
    now : written_by_rule (statements (drop i said)) ≡ written_by_rule (u.statement ∷ statements (drop (i + 1) said))
    now = ap (λ us. written_by_rule (statements us)) (left_more said u i l here)

    pub written_less : is_root_kind u.statement ≡ true → n + written_by_rule (statements (drop i said)) ≡ m → n + written_by_rule (statements (drop (i + 1) said)) ≡ m
    written_less e h = omega (arith, h, now, written_not u.statement (statements (drop (i + 1) said)) e)

    pub written_more : is_root_kind u.statement ≡ false → n + written_by_rule (statements (drop i said)) ≡ m → n + 1 + written_by_rule (statements (drop (i + 1) said)) ≡ m
    written_more e h = omega (arith, h, now, written_too u.statement (statements (drop (i + 1) said)) e)

  pub written_last : (said : List (Said K)) (i n : ℕ) → length said ≤ i → n + written_by_rule (statements (drop i said)) ≡ written_by_rule (statements said) →
      n ≡ written_by_rule (statements said)
  unfolding written_by_rule
  written_last said i n l h =
      let none : written_by_rule (statements (drop i said)) ≡ 0 = ap (λ us. written_by_rule (statements us)) (drop_all i said l) in
      omega (arith, h, none)
