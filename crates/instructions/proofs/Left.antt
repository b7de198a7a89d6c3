-- What is left of a term's codes and kinds before a statement, and how many turns that takes.
use Rattle.std.proofs.Common.{◌≡◌, ℕ, suc, ◌+◌, ◌<◌, ◌≤◌, Bool, true, false, cond, List, [], ◌∷◌, ◌++◌, length, drop, Some, refl, ap, ◌∙◌, arith, length-append}
use Rattle.std.proofs.lemmas.Bool.{cond-false, ne_eqb}
use Rattle.orders.specs.Meaning.{Meaning}
use Rattle.grammar.specs.declared.statement.Statement.{Statement}
use Rattle.grammar.specs.declared.statement.Statement.TheVariants.{Kind, Feature}
use Rattle.performing.specs.Performing.{State}
use Rattle.instructions.specs.declared.instruction.Instruction.{Instruction}
use Rattle.instructions.specs.declared.instruction.Instruction.TheVariants.{PushCell, SetFeature}
use Rattle.instructions.specs.Codes.{Compiling, kinds, subject, is_new, ends_before, told, told_by_rule, read, next, read_from, write_from}
use Rattle.instructions.specs.Steps.{write, step, entered, run}
use Rattle.instructions.proofs.Fetching.{past_first, past_front}
use Rattle.instructions.proofs.Running.{writing, writes_on}

-- from the statement on, past the tests that stand before it in the write code
unfoldable pub rest : {K : Type 0} → Compiling → List (Statement K) → List Instruction
rest c [] = []
rest c (s ∷ ss) = told_by_rule c s ++ write_from (next c s) ss

pub rest_short : {K : Type 0} (c : Compiling) (ss : List (Statement K)) → length (rest c ss) ≤ length (write_from c ss)
unfolding rest write_from
rest_short c [] = omega arith
rest_short c (s ∷ ss) = omega (arith, length-append (ends_before c (subject s)) (told_by_rule c s ++ write_from (next c s) ss))

pub record Left {K : Type 0} (ks : List K) (reads writes : List Instruction) (ss : List (Statement K)) (c : Compiling) : Type 0 where
  pub kinds_left : drop c.kinds ks ≡ kinds ss
  pub read_left : drop c.statements reads ≡ read_from c ss
  pub write_left : drop c.written writes ≡ write_from c ss

module _ {K : Type 0} (ks : List K) (reads writes : List Instruction) where
  kinds_next : (s : Statement K) (ss : List (Statement K)) (c : Compiling) → drop c.kinds ks ≡ kinds (s ∷ ss) → drop (next c s).kinds ks ≡ kinds ss
  unfolding kinds
  kinds_next (Kind x k) ss c e = past_first ks c.kinds k (kinds ss) e
  kinds_next (Feature x f y) ss c e = e

  module _ (s : Statement K) (ss : List (Statement K)) (c : Compiling) (l : Left ks reads writes (s ∷ ss) c) where
    pub after_tests : drop (c.written + length (ends_before c (subject s))) writes ≡ told_by_rule c s ++ write_from (next c s) ss
    unfolding write_from
    after_tests = past_front writes c.written (ends_before c (subject s)) _ l.write_left

    pub left_next : Left ks reads writes ss (next c s)
    unfolding read_from
    left_next =
        record {
          kinds_left = kinds_next s ss c l.kinds_left;
          read_left = past_first reads c.statements (read c s) (read_from (next c s) ss) l.read_left;
          write_left = past_front writes _ (told_by_rule c s) _ after_tests;
        }

-- the root's kind comes before anything is written
pub told_all : {K : Type 0} (c : Compiling) (s : Statement K) → 0 < subject s → told_by_rule c s ≡ told c s
told_all c (Kind x k) l = cond-false _ [] (told c (Kind x k)) (ne_eqb x 0 (λ e. omega arith))
told_all c (Feature x f y) l = refl

module _ {K : Type 0} (m : Meaning K) (ks : List K) where
  -- instructions that only write
  unfoldable Plain : List Instruction → Type 0
  Plain [] = Unit {0}
  Plain (i ∷ is) = ((d at : ℕ) (s : State K) → step m ks i (writing d s at) ≡ Some (writing d (write m ks i s) (suc at))) × Plain is

  told_plain : (c : Compiling) (s : Statement K) → Plain (told c s)
  unfolding Plain
  told_plain c (Kind x k) = (λ d at s. refl, tt)
  told_plain c (Feature x f y) = each (is_new c y)
    where
      each : (b : Bool) → Plain (cond b (PushCell y ∷ SetFeature x f y ∷ []) (SetFeature x f y ∷ []))
      each true = (λ d at s. refl, (λ d at s. refl, tt))
      each false = (λ d at s. refl, tt)

  module _ (reads writes more : List Instruction) (d : ℕ) where
    plain_run : (is : List Instruction) (n at : ℕ) (s : State K) → Plain is → drop at writes ≡ is ++ more →
        run m ks reads writes (length is + n) (writing d s at) ≡ run m ks reads writes n (writing d (entered m ks is s) (at + length is))
    unfolding Plain entered
    plain_run [] n at s p e = ap (λ k. run m ks reads writes k (writing d s at)) (omega arith) ∙ ap (λ k. run m ks reads writes n (writing d s k)) (omega arith)
    plain_run (i ∷ is) n at s p e =
        ap (λ k. run m ks reads writes k (writing d s at)) (omega arith)
        ∙ writes_on m ks reads writes (length is + n) d s at i (is ++ more) _ e (p.0 d at s)
        ∙ plain_run is n (suc at) (write m ks i s) p.1 (past_first writes at i (is ++ more) e)
        ∙ ap (λ k. run m ks reads writes n (writing d (entered m ks is (write m ks i s)) k)) (omega arith)

    -- what a statement tells is written
    pub told_run : (c : Compiling) (t : Statement K) (n at : ℕ) (s : State K) → drop at writes ≡ told c t ++ more →
        run m ks reads writes (length (told c t) + n) (writing d s at) ≡
        run m ks reads writes n (writing d (entered m ks (told c t) s) (at + length (told c t)))
    told_run c t n at s e = plain_run (told c t) n at s (told_plain c t) e
