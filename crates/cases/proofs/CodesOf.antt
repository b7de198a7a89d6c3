-- The codes of a rule push a cell for each variable but the root, and use the features of its statements.
use Rattle.std.proofs.Common.{◌≡◌, ℕ, zero, suc, ◌+◌, ◌≤◌, Bool, true, false, cond, nat_lt, List, [], ◌∷◌, ◌++◌, length, slice_index, refl, sym, ap, ◌∙◌, subst, arith}
use Rattle.std.proofs.lemmas.Bool.{cond_both, and_parts, ltb-true}
use Rattle.std.proofs.lemmas.List.{length_push}
use Rattle.std.specs.List.{AllByRecursion}
use Rattle.grammar.specs.declared.statement.Statement.{Statement}
use Rattle.grammar.specs.declared.statement.Statement.TheVariants.{Kind, Feature}
use Rattle.grammar.specs.Lawful.{depths_from, depths}
use Rattle.instructions.specs.declared.instruction.Instruction.{Instruction}
use Rattle.instructions.specs.declared.instruction.Instruction.TheVariants.{PushCell, SetFeature}
use Rattle.instructions.specs.Codes.{Compiling, beginning, subject, depth_of, is_new, closes, ends_before, told, is_root_kind, told_by_rule, read, next, more_depths, read_from, write_from, read_code, write_code}
use Rattle.compiler.proofs.Onward.{depths_next}
use Rattle.osf.specs.Calls.{features_below}
use Rattle.cases.specs.Limits.{is_below}
use Rattle.instructions.specs.declared.instruction.Mode.TheVariants.{Read}
use Rattle.cases.specs.declared.store.pairs.steps.Progress.{Progress}
use Rattle.cases.specs.Pushing.{pushes, Uses, Codes, Room}
use Rattle.cases.proofs.Pushing.{room_first}
use Rattle.cases.proofs.Running.{all_both}
use Rattle.cases.proofs.Below.{below_first}
use Rattle.cases.proofs.Coded.{codes_on}

pushes_both : (is js : List Instruction) → pushes (is ++ js) ≡ pushes is + pushes js
unfolding pushes
pushes_both [] js = omega arith
pushes_both (i ∷ is) js = omega (arith, pushes_both is js)

closes_push : (d e label : ℕ) → pushes (closes d e label) ≡ 0
unfolding closes pushes
closes_push zero e label = refl
closes_push (suc d) e label = cond_both (nat_lt e (suc d)) _ _ (λ is. pushes is ≡ 0) (λ t. omega (arith, closes_push d e label)) (λ t. refl)

closes_use : (f d e label : ℕ) → AllByRecursion (Uses f) (closes d e label)
unfolding closes
closes_use f zero e label = tt
closes_use f (suc d) e label = cond_both (nat_lt e (suc d)) _ _ (AllByRecursion (Uses f)) (λ t. (tt, closes_use f d e label)) (λ t. tt)

module _ {K : Type 0} where
  told_push : (c : Compiling) (s : Statement K) → pushes (told c s) + length c.depths ≤ length (more_depths s c.depths)
  unfolding pushes
  told_push c (Kind x k) = omega arith
  told_push c (Feature x f y) = each (is_new c y)
    where
      each : (b : Bool) → pushes (cond b (PushCell y ∷ SetFeature x f y ∷ []) (SetFeature x f y ∷ [])) + length c.depths
          ≤ length (cond b (c.depths ++ suc (slice_index c.depths x) ∷ []) c.depths)
      each true = omega (arith, length_push c.depths (suc (slice_index c.depths x)))
      each false = omega arith

  told_by_rule_push : (c : Compiling) (s : Statement K) → pushes (told_by_rule c s) ≤ pushes (told c s)
  unfolding pushes
  told_by_rule_push c s = cond_both (is_root_kind s) [] (told c s) (λ is. pushes is ≤ pushes (told c s)) (λ e. omega arith) (λ e. omega arith)

  writes_push : (c : Compiling) (ss : List (Statement K)) → pushes (write_from c ss) + length c.depths ≤ length (depths_from c.depths ss)
  unfolding write_from depths_from
  writes_push c [] = omega (arith, closes_push c.depth 0 c.statements)
  writes_push c (s ∷ ss) =
      let rest = write_from (next c s) ss in
      omega (
        arith,
        pushes_both (ends_before c (subject s)) (told_by_rule c s ++ rest),
        pushes_both (told_by_rule c s) rest,
        closes_push c.depth (depth_of c (subject s)) c.statements,
        told_by_rule_push c s,
        told_push c s,
        writes_push (next c s) ss,
        ap length (depths_next s ss c.depths),
      )

  module _ (f : ℕ) where
    told_use : (c : Compiling) (s : Statement K) → is_below f s ≡ true → AllByRecursion (Uses f) (told c s)
    told_use c (Kind x k) b = (tt, tt)
    told_use c (Feature x g y) b =
        let l = ltb-true g f b in
        cond_both (is_new c y) _ _ (AllByRecursion (Uses f)) (λ e. (tt, (l, tt))) (λ e. (l, tt))

    read_use : (c : Compiling) (s : Statement K) → is_below f s ≡ true → Uses f (read c s)
    read_use c (Kind x k) b = tt
    read_use c (Feature x g y) b =
        let l = ltb-true g f b in
        cond_both (is_new c y) _ _ (Uses f) (λ e. l) (λ e. l)

    module _ (s : Statement K) (ss : List (Statement K)) (b : features_below f (s ∷ ss) ≡ true) where
      both : (is_below f s ≡ true) × (features_below f ss ≡ true)
      both = and_parts _ _ (sym (below_first f s ss) ∙ b)

    reads_use : (c : Compiling) (ss : List (Statement K)) → features_below f ss ≡ true → AllByRecursion (Uses f) (read_from c ss)
    unfolding read_from
    reads_use c [] b = tt
    reads_use c (s ∷ ss) b = (read_use c s (both s ss b).0, reads_use (next c s) ss (both s ss b).1)

    writes_use : (c : Compiling) (ss : List (Statement K)) → features_below f ss ≡ true → AllByRecursion (Uses f) (write_from c ss)
    unfolding write_from
    writes_use c [] b = closes_use f c.depth 0 c.statements
    writes_use c (s ∷ ss) b =
        let rest = write_from (next c s) ss in
        let now = cond_both (is_root_kind s) [] (told c s) (AllByRecursion (Uses f)) (λ e. tt) (λ e. told_use c s (both s ss b).0) in
        all_both (Uses f) (ends_before c (subject s)) (told_by_rule c s ++ rest) (closes_use f c.depth (depth_of c (subject s)) c.statements)
        (all_both (Uses f) (told_by_rule c s) rest now (writes_use (next c s) ss (both s ss b).1))

  module _ (ss : List (Statement K)) (reads writes : List Instruction) (reads_are : reads ≡ read_code ss) (writes_are : writes ≡ write_code ss) where
    few_pushed : suc (pushes writes) ≤ length (depths ss)
    few_pushed = omega (arith, ap pushes writes_are, writes_push beginning ss)

    pub rule_codes : (f : ℕ) → features_below f ss ≡ true → Codes reads writes f
    rule_codes f b =
        subst (λ (is : List Instruction). Codes is writes f) (sym reads_are)
        (subst (λ (is : List Instruction). Codes (read_code ss) is f) (sym writes_are)
        (record { onward = codes_on ss; reads_use = reads_use f beginning ss b; writes_use = writes_use f beginning ss b }))

    -- where a rule begins, at its root
    pub rule_room : (n used : ℕ) (p : Progress) → p ≡ record { used = used; set = 1; mode = Read; at = 0 } → used + length (depths ss) ≤ suc n
        → Room reads writes n p.mode p.at p.used
    rule_room n used p e l =
        subst (λ (q : Progress). Room reads writes n q.mode q.at q.used) (sym e) (room_first reads writes n 0 used (omega (arith, l, few_pushed)))
