-- The code of an entry, as it is written: what is there and what is to come make up the whole.
use Rattle.std.proofs.Common.{◌≡◌, ℕ, ◌+◌, ◌<◌, ◌≤◌, List, [], ◌∷◌, ◌++◌, length, get_or, drop, append_assoc, append-nil, length-append, sym, ap, ◌∙◌, arith, subst}
use Rattle.std.proofs.lemmas.List.{drop_all}
use Rattle.grammar.specs.declared.statement.Statement.{Statement}
use Rattle.instructions.specs.declared.instruction.Instruction.{Instruction}
use Rattle.instructions.specs.declared.instruction.Instruction.TheVariants.{PushCell}
use Rattle.instructions.specs.Codes.{Compiling, beginning, told, next, entry_from, entry_code}
use Rattle.compiler.specs.declared.codes.Pass.{Pass}
use Rattle.compiler.specs.Passing.{Counts}
use Rattle.compiler.proofs.Onward.{Here, here_first, here_next, left_more}

pub record Entering {K : Type 0} (ss rest : List (Statement K)) (i : ℕ) (p : Pass) (code : List Instruction) : Type 0 where
  pub at : Compiling
  pub here : Here ss rest i p at
  pub whole : code ++ entry_from at rest ≡ entry_code ss

module _ {K : Type 0} where
  pub entering_first : (ss : List (Statement K)) (p : Pass) (none code : List Instruction) → p.met ≡ 1 → p.kinds ≡ 0 → none ≡ [] →
      code ≡ none ++ PushCell 0 ∷ [] → Entering ss ss 0 p code
  entering_first ss p none code m k n e =
      let pushed = e ∙ ap (λ is. is ++ PushCell 0 ∷ []) n in
      record { at = beginning; here = here_first ss p m k; whole = ap (λ is. is ++ entry_from beginning ss) pushed }

  module _ (ss rest : List (Statement K)) (s : Statement K) (i : ℕ) (p : Pass) (code : List Instruction) (h : Entering ss (s ∷ rest) i p code) where
    split : code ++ (told h.at s ++ entry_from (next h.at s) rest) ≡ entry_code ss
    unfolding entry_from
    split = h.whole

    pub entering_fits : (n : ℕ) → length (entry_code ss) ≤ n → length code + length (told h.at s) ≤ n
    entering_fits n l =
        omega (
          arith,
          ap length split,
          length-append code (told h.at s ++ entry_from (next h.at s) rest),
          length-append (told h.at s) (entry_from (next h.at s) rest),
        )

    pub entering_next : (q : Pass) (new : List Instruction) → Counts q (next h.at s) → new ≡ code ++ told h.at s → Entering ss rest (i + 1) q new
    entering_next q new n e =
        record {
          at = next h.at s;
          here = here_next ss rest s i p q h.at h.here n;
          whole =
              ap (λ is. is ++ entry_from (next h.at s) rest) e ∙ append_assoc code (told h.at s) (entry_from (next h.at s) rest) ∙ split;
        }

  pub entering_now : (ss : List (Statement K)) (s : Statement K) (i : ℕ) (p : Pass) (code : List Instruction) → i < length ss → s ≡ get_or ss i s →
      Entering ss (drop i ss) i p code → Entering ss (s ∷ drop (i + 1) ss) i p code
  entering_now ss s i p code l e h = subst (λ rest. Entering ss rest i p code) (left_more ss s i l e) h

  pub entering_last : (ss : List (Statement K)) (i : ℕ) (p : Pass) (code : List Instruction) → length ss ≤ i → Entering ss (drop i ss) i p code → code ≡ entry_code ss
  unfolding entry_from
  entering_last ss i p code l h =
      let h : Entering ss [] i p code = subst (λ rest. Entering ss rest i p code) (drop_all i ss l) h in
      sym (append-nil code) ∙ h.whole
