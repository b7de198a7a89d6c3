-- How many instructions the codes of a rule have: each statement is read, and each but the root's kind is written; each variable but the
-- root is pushed, and has a test where its description ends.
use Rattle.std.proofs.Common.{◌≡◌, ℕ, suc, ◌+◌, ◌-◌, ◌*◌, ◌≤◌, Bool, true, false, cond, eqb, List, [], ◌∷◌, ◌++◌, length, get_or, length-append, refl, ap, arith}
use Rattle.std.proofs.lemmas.List.{length_push, length-map}
use Rattle.std.proofs.lemmas.Bool.{and_parts, both_ways, cond-true, cond-false}
use Rattle.grammar.specs.declared.statement.Statement.{Statement}
use Rattle.grammar.specs.declared.statement.Statement.TheVariants.{Kind, Feature}
use Rattle.grammar.specs.declared.statement.Said.{Said}
use Rattle.grammar.specs.Lawful.{Open, root, may_come, after, lawful_from, path_to, lawful, depths_from, depths, statements}
use Rattle.instructions.specs.Codes.{Compiling, beginning, subject, depth_of, is_new, ends_before, told, is_root_kind, told_by_rule, opened, next, more_depths, read_from, write_from, read_code, write_code}
use Rattle.instructions.proofs.Agreeing.{Agrees, agrees_root, agrees_next}
use Rattle.compiler.specs.Passing.{written_by_rule}
use Rattle.compiler.proofs.Onward.{depths_next, some_met}
use Rattle.compiler.proofs.Lengths.{told_length}
use Rattle.compiler.proofs.Closes.{closes_length}
use Rattle.compiler.proofs.Counting.{written_not, written_too}

-- the path to a variable is no longer than the path
to_short : (x : ℕ) (ys : List ℕ) → length (path_to x ys) ≤ length ys
unfolding path_to
to_short x [] = omega arith
to_short x (y ∷ ys) = each (eqb x y) (to_short x ys)
  where
    each : (b : Bool) → length (path_to x ys) ≤ length ys → length (cond b (y ∷ ys) (path_to x ys)) ≤ suc (length ys)
    each true l = omega arith
    each false l = omega arith

path_short : (K : Type 0) (o : Open) (x f y : ℕ) (c : Compiling) → length c.depths ≡ o.count →
    length ((after {K = K} (Feature x f y) o).path) + length c.depths ≤ length o.path + length (more_depths {K = K} (Feature x f y) c.depths)
path_short K o x f y c m = rw m (each (eqb y o.count))
  where
    each : (b : Bool) →
        length (cond b (y ∷ path_to x o.path) (path_to x o.path)) + o.count ≤
        length o.path + length (cond b (c.depths ++ suc (get_or c.depths x 0) ∷ []) c.depths)
    each true = omega (arith, m, to_short x o.path, length_push c.depths (suc (get_or c.depths x 0)))
    each false = omega (arith, m, to_short x o.path)

module _ {K : Type 0} where
  -- what may come, and that the rest is lawful after it
  pub lawful_parts : (n : ℕ) (o : Open) (s : Statement K) (ss : List (Statement K)) → lawful_from n o (s ∷ ss) ≡ true →
      (may_come n s o ≡ true) × (lawful_from n (after s o) ss ≡ true)
  unfolding lawful_from
  lawful_parts n o s ss l = and_parts (may_come n s o) (lawful_from n (after s o) ss) l

  pub read_length : (c : Compiling) (ss : List (Statement K)) → length (read_from c ss) ≡ length ss
  unfolding read_from
  read_length c [] = refl
  read_length c (s ∷ ss) = ap suc (read_length (next c s) ss)

  -- a statement of the root's kind is no feature statement: nothing is met by it
  told_by_rule_length : (c : Compiling) (s : Statement K) (ss : List (Statement K)) →
      length (told_by_rule c s) + length c.depths + written_by_rule ss ≡ written_by_rule (s ∷ ss) + length (more_depths s c.depths)
  told_by_rule_length c s ss = each (is_root_kind s) refl
    where
      each : (b : Bool) → is_root_kind s ≡ b → length (told_by_rule c s) + length c.depths + written_by_rule ss ≡ written_by_rule (s ∷ ss) + length (more_depths s c.depths)
      each true e = omega (arith, written_not s ss e, ap length (cond-true (is_root_kind s) [] (told c s) e), root_meets_none s e)
        where
          root_meets_none : (t : Statement K) → is_root_kind t ≡ true → length (more_depths t c.depths) ≡ length c.depths
          root_meets_none (Kind x k) e = refl
          root_meets_none (Feature x f y) e = absurd (both_ways false refl e)
      each false e = omega (arith, written_too s ss e, ap length (cond-false (is_root_kind s) [] (told c s) e), told_length c s)

  -- the description that is open then is a step deeper where a value is new
  opened_depth : (c : Compiling) (s : Statement K) → opened c s + length c.depths ≡ depth_of c (subject s) + length (more_depths s c.depths)
  opened_depth c (Kind x k) = refl
  opened_depth c (Feature x f y) = each (is_new c y)
    where
      each : (b : Bool) →
          cond b (suc (depth_of c x)) (depth_of c x) + length c.depths ≡
          depth_of c x + length (cond b (c.depths ++ suc (get_or c.depths x 0) ∷ []) c.depths)
      each true = omega (arith, length_push c.depths (suc (get_or c.depths x 0)))
      each false = refl

  -- what a statement is about is no deeper than the innermost open description
  no_deeper : (n : ℕ) (o : Open) (c : Compiling) (s : Statement K) → Agrees o c → may_come n s o ≡ true → depth_of c (subject s) ≤ c.depth
  no_deeper n o c (Kind x k) a m = omega (arith, (agrees_next n o c a (Kind x k) m).innermost, a.innermost)
  no_deeper n o c (Feature x f y) a m =
      let s : Statement K = Feature x f y in
      omega (
        arith,
        (agrees_next n o c a s m).innermost,
        a.innermost,
        opened_depth c s,
        path_short K o x f y c a.met,
      )

  write_length_from : (n : ℕ) (o : Open) (c : Compiling) (ss : List (Statement K)) → Agrees o c → lawful_from n o ss ≡ true →
      length (write_from c ss) + 2 * length c.depths ≡ written_by_rule ss + c.depth + 2 * length (depths_from c.depths ss)
  unfolding write_from depths_from written_by_rule
  write_length_from n o c [] a l = omega (arith, closes_length c.depth 0 c.statements (omega arith))
  write_length_from n o c (s ∷ ss) a l =
      let (may, rest) = lawful_parts n o s ss l in
      omega (
        arith,
        length-append (ends_before c (subject s)) (told_by_rule c s ++ write_from (next c s) ss),
        length-append (told_by_rule c s) (write_from (next c s) ss),
        closes_length c.depth (depth_of c (subject s)) c.statements (no_deeper n o c s a may),
        told_by_rule_length c s ss,
        opened_depth c s,
        write_length_from n (after s o) (next c s) ss (agrees_next n o c a s may) rest,
        ap length (depths_next s ss c.depths),
      )

  pub rule_length : (n : ℕ) (said : List (Said K)) → lawful n (statements said) ≡ true →
      length (read_code (statements said)) + length (write_code (statements said)) ≡
      length said + written_by_rule (statements said) + 2 * (length (depths (statements said)) - 1)
  rule_length n said l =
      let ss = statements said in
      omega (
        arith,
        read_length beginning ss,
        write_length_from n root beginning ss agrees_root l,
        some_met (0 ∷ []) ss,
        length-map said (λ s. s.statement),
      )
