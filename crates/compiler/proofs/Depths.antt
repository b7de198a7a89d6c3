-- The depths of all variables have those that a statement needs.
use Rattle.std.proofs.Common.{◌≡◌, ℕ, suc, ◌<◌, Bool, true, false, cond, eqb, List, [], ◌∷◌, ◌++◌, length, get_or, sym, refl, ap, ◌∙◌, arith}
use Rattle.std.proofs.lemmas.List.{length_push, get_or_push, get_or_append_left}
use Rattle.std.proofs.lemmas.Bool.{cond-true, eq-eqb}
use Rattle.grammar.specs.declared.statement.Statement.{Statement}
use Rattle.grammar.specs.declared.statement.Statement.TheVariants.{Kind, Feature}
use Rattle.grammar.specs.Lawful.{Open, may_come, depths_from}
use Rattle.grammar.proofs.Opens.{falling_among}
use Rattle.instructions.specs.Codes.{Compiling, subject, more_depths}
use Rattle.instructions.proofs.Agreeing.{Agrees, subject_among}
use Rattle.compiler.specs.Passing.{Known, NewKnown}
use Rattle.compiler.proofs.Onward.{depths_next, no_fewer, some_met}

module _ {K : Type 0} where
  -- what is told of a variable stays
  kept_next : (ds : List ℕ) (s : Statement K) (z : ℕ) → z < length ds → get_or (more_depths s ds) z 0 ≡ get_or ds z 0
  kept_next ds (Kind x k) z l = refl
  kept_next ds (Feature x f y) z l = each (eqb y (length ds))
    where
      each : (b : Bool) → get_or (cond b (ds ++ suc (get_or ds x 0) ∷ []) ds) z 0 ≡ get_or ds z 0
      each true = get_or_append_left ds (suc (get_or ds x 0) ∷ []) 0 z l
      each false = refl

  kept_depth : (ds : List ℕ) (rest : List (Statement K)) (z : ℕ) → z < length ds → get_or (depths_from ds rest) z 0 ≡ get_or ds z 0
  unfolding depths_from
  kept_depth ds [] z l = refl
  kept_depth ds (s ∷ rest) z l =
      ap (λ es. get_or es z 0) (depths_next s rest ds)
      ∙ kept_depth (more_depths s ds) rest z (omega (arith, no_fewer ds s))
      ∙ kept_next ds s z l

  module _ (c : Compiling) (ds : List ℕ) (rest : List (Statement K)) where
    new_known : (s : Statement K) → depths_from c.depths (s ∷ rest) ≡ ds → NewKnown ds c s
    new_known (Kind x k) e = tt
    new_known (Feature x f y) e = λ q.
        let deep = suc (get_or c.depths x 0) in
        let more : more_depths {K = K} (Feature x f y) c.depths ≡ c.depths ++ deep ∷ [] = cond-true _ _ c.depths (eq-eqb y (length c.depths) q) in
        let told : depths_from (c.depths ++ deep ∷ []) rest ≡ ds = sym (ap (λ es. depths_from es rest) more) ∙ sym (depths_next (Feature x f y) rest c.depths) ∙ e in
        let long = length_push c.depths deep in (
          omega (arith, some_met (c.depths ++ deep ∷ []) rest, ap length told),
          sym (ap (λ es. get_or es y 0) told) ∙ kept_depth (c.depths ++ deep ∷ []) rest y (omega arith) ∙ get_or_push c.depths deep 0 y (sym q),
        )

    pub known : (n : ℕ) (o : Open) (s : Statement K) → Agrees o c → may_come n s o ≡ true → depths_from c.depths (s ∷ rest) ≡ ds → Known ds c s
    known n o s a m e =
        let x = subject s in
        let met : x < o.count = falling_among x o.count o.path a.falling (subject_among n s o m) in
        record {
          met = omega (arith, a.met, some_met c.depths (s ∷ rest), ap length e);
          deep = sym (ap (λ es. get_or es x 0) e) ∙ kept_depth c.depths (s ∷ rest) x (omega (arith, a.met));
          new = new_known s e;
        }
