-- The codes of a rule go on: what a test begins to write comes after all that was written before.
use Rattle.std.proofs.Common.{◌≡◌, ℕ, zero, suc, ◌+◌, ◌≤◌, nat_lt, List, [], ◌∷◌, ◌++◌, length, drop, refl, sym, ap, ◌∙◌, subst, arith}
use Rattle.std.proofs.lemmas.Bool.{cond_both}
use Rattle.std.specs.List.{AllByRecursion}
use Rattle.grammar.specs.declared.statement.Statement.{Statement}
use Rattle.grammar.specs.declared.statement.Statement.TheVariants.{Kind, Feature}
use Rattle.instructions.specs.declared.instruction.Instruction.{Instruction}
use Rattle.instructions.specs.declared.instruction.Instruction.TheVariants.{PushCell, SetSort, SetFeature, IntersectSort, TestFeature, UnifyFeature, WriteTest}
use Rattle.instructions.specs.Codes.{Compiling, beginning, subject, depth_of, is_new, closes, ends_before, told, is_root_kind, told_by_rule, read, next, read_from, write_from, read_code, write_code}
use Rattle.cases.specs.Pushing.{BeginsFrom, Onward}

onward_both : (reads is js : List Instruction) (p : ℕ) → Onward reads p is → Onward reads (p + length is) js → Onward reads p (is ++ js)
unfolding Onward
onward_both reads [] js p a b = let e : p + 0 ≡ p = omega arith in subst (λ (k : ℕ). Onward reads k js) e b
onward_both reads (i ∷ is) js p a b =
    let e : p + suc (length is) ≡ suc p + length is = omega arith in
    (a.0, onward_both reads is js (suc p) a.1 (subst (λ (k : ℕ). Onward reads k js) e b))

weaker : (p q : ℕ) (is : List Instruction) → p ≤ q → AllByRecursion (BeginsFrom q) is → AllByRecursion (BeginsFrom p) is
weaker p q [] l a = tt
weaker p q (PushCell r ∷ is) l a = (tt, weaker p q is l a.1)
weaker p q (SetSort r k ∷ is) l a = (tt, weaker p q is l a.1)
weaker p q (SetFeature r f v ∷ is) l a = (tt, weaker p q is l a.1)
weaker p q (IntersectSort r k ∷ is) l a = (tt, weaker p q is l a.1)
weaker p q (TestFeature r f v d label ∷ is) l a = (omega (arith, l, a.0), weaker p q is l a.1)
weaker p q (UnifyFeature r f v ∷ is) l a = (tt, weaker p q is l a.1)
weaker p q (WriteTest d label ∷ is) l a = (tt, weaker p q is l a.1)

closes_on : (reads : List Instruction) (d e label p q : ℕ) → AllByRecursion (BeginsFrom q) (drop label reads) → p + length (closes d e label) ≤ q
    → Onward reads p (closes d e label)
unfolding closes Onward
closes_on reads zero e label p q a l = tt
closes_on reads (suc d) e label p q a l =
    cond_both (nat_lt e (suc d)) (WriteTest (suc d) label ∷ closes d e label) [] (λ is. p + length is ≤ q → Onward reads p is)
    (λ t k. (weaker (suc p) q (drop label reads) (omega (arith, k)) a, closes_on reads d e label (suc p) q a (omega (arith, k))))
    (λ t k. tt) l

next_read : (xs : List Instruction) (k : ℕ) (y : Instruction) (ys : List Instruction) → drop k xs ≡ y ∷ ys → drop (suc k) xs ≡ ys
next_read xs k y ys e = drop_tail xs k ∙ ap tail e
  where
    tail : List Instruction → List Instruction
    tail [] = []
    tail (z ∷ zs) = zs

    drop_tail : (xs : List Instruction) (k : ℕ) → drop (suc k) xs ≡ tail (drop k xs)
    drop_tail [] zero = refl
    drop_tail (z ∷ zs) zero = refl
    drop_tail [] (suc k) = refl
    drop_tail (z ∷ zs) (suc k) = drop_tail zs k

module _ {K : Type 0} where
  head_from : (q : ℕ) (c : Compiling) (s : Statement K) → q ≤ c.written + length (ends_before c (subject s)) → BeginsFrom q (read c s)
  head_from q c (Kind x k) l = tt
  head_from q c (Feature x f y) l = cond_both (is_new c y) _ _ (BeginsFrom q) (λ e. l) (λ e. tt)

  reads_from : (q : ℕ) (c : Compiling) (ss : List (Statement K)) → q ≤ c.written → AllByRecursion (BeginsFrom q) (read_from c ss)
  unfolding read_from
  reads_from q c [] l = tt
  reads_from q c (s ∷ ss) l = (head_from q c s (omega (arith, l)), reads_from q (next c s) ss (omega (arith, l)))

  module _ (reads : List Instruction) where
    told_on : (p : ℕ) (c : Compiling) (s : Statement K) → Onward reads p (told c s)
    unfolding Onward
    told_on p c (Kind x k) = (tt, tt)
    told_on p c (Feature x f y) = cond_both (is_new c y) _ _ (Onward reads p) (λ e. (tt, (tt, tt))) (λ e. (tt, tt))

    told_by_rule_on : (p : ℕ) (c : Compiling) (s : Statement K) → Onward reads p (told_by_rule c s)
    unfolding Onward
    told_by_rule_on p c s = cond_both (is_root_kind s) [] (told c s) (Onward reads p) (λ e. tt) (λ e. told_on p c s)

    writes_on : (c : Compiling) (ss : List (Statement K)) → drop c.statements reads ≡ read_from c ss → Onward reads c.written (write_from c ss)
    unfolding write_from read_from
    writes_on c [] e =
        closes_on reads c.depth 0 c.statements c.written (c.written + length (closes c.depth 0 c.statements))
        (subst (AllByRecursion (BeginsFrom _)) (sym e) tt) (omega arith)
    writes_on c (s ∷ ss) e =
        let ends = ends_before c (subject s) in
        let q = c.written + length ends in
        onward_both reads ends (told_by_rule c s ++ write_from (next c s) ss) c.written
        (closes_on reads c.depth (depth_of c (subject s)) c.statements c.written q
        (subst (AllByRecursion (BeginsFrom q)) (sym e) (head_from q c s (omega arith), reads_from q (next c s) ss (omega arith))) (omega arith))
        (onward_both reads (told_by_rule c s) (write_from (next c s) ss) q (told_by_rule_on q c s)
        (writes_on (next c s) ss (next_read reads c.statements (read c s) (read_from (next c s) ss) e)))

  pub codes_on : (ss : List (Statement K)) → Onward (read_code ss) 0 (write_code ss)
  codes_on ss = writes_on (read_code ss) beginning ss refl
