-- What the compiler keeps agrees, statement by statement, with what a lawful list of statements leaves open.
use Rattle.std.proofs.Common.{◌≡◌, ℕ, suc, ◌<◌, ◌≤◌, true, false, not, ◌&&◌, List, [], ◌∷◌, length, get_or, sym, refl, ap, ◌∙◌, inl, inr, arith, nat_le, nat_lt, leb-true, ltb-true}
use Rattle.std.proofs.lemmas.List.{get_or_push, length_push}
use Rattle.std.proofs.lemmas.Bool.{and_parts, cases_eq, eq-eqb, eqb-true, ne_eqb, not-true, both_ways}
use Rattle.declarations.specs.Declarations.{among}
use Rattle.grammar.specs.declared.statement.Statement.{Statement}
use Rattle.grammar.specs.declared.statement.Statement.TheVariants.{Kind, Feature}
use Rattle.grammar.specs.Lawful.{Open, root, path_to, innermost, has, may_come, after}
use Rattle.grammar.proofs.Opens.{Falling, falling_to, innermost-among}
use Rattle.instructions.specs.Codes.{Compiling, beginning, subject, depth_of, next}
use Rattle.instructions.proofs.Paths.{Deep, deep_cons, to_deep, deep_more}

-- as many depths as variables are met; along the open path they are right; the innermost description is as deep as the path
pub record Agrees (o : Open) (c : Compiling) : Type 0 where
  pub met : length c.depths ≡ o.count
  pub falling : Falling o.count o.path
  pub deep : Deep c.depths o.path
  pub innermost : suc c.depth ≡ length o.path

pub agrees_root : Agrees root beginning
unfolding Deep
agrees_root = record { met = refl; falling = (omega arith, tt); deep = (refl, tt); innermost = refl }

-- what a statement that may come says
pub kind_innermost : {K : Type 0} (n x : ℕ) (k : K) (o : Open) → may_come n (Kind x k) o ≡ true → (o.fresh ≡ true) × (innermost x o.path ≡ true)
kind_innermost n x k o m = and_parts o.fresh (innermost x o.path) m

pub subject_among : {K : Type 0} (n : ℕ) (s : Statement K) (o : Open) → may_come n s o ≡ true → among (subject s) o.path ≡ true
subject_among n (Kind x k) o m = innermost-among x o.path ((kind_innermost n x k o m).1)
subject_among n (Feature x f y) o m = (and_parts (among x o.path) _ m).0

module _ (n x f y : ℕ) (o : Open) (K : Type 0) (m : may_come {K = K} n (Feature x f y) o ≡ true) where
  parts : (not (has x f o.features) ≡ true) × ((nat_le y o.count && nat_lt f n) ≡ true)
  parts = and_parts (not (has x f o.features)) _ ((and_parts (among x o.path) _ m).1)

  pub untold : has x f o.features ≡ false
  untold = not-true (has x f o.features) parts.0

  pub value_met : y ≤ o.count
  value_met = leb-true y o.count ((and_parts (nat_le y o.count) (nat_lt f n) parts.1).0)

  pub feature_known : f < n
  feature_known = ltb-true f n ((and_parts (nat_le y o.count) (nat_lt f n) parts.1).1)

innermost_deep : (ds : List ℕ) (x : ℕ) (ys : List ℕ) → Deep ds ys → innermost x ys ≡ true → suc (get_or ds x 0) ≡ length ys
unfolding Deep
innermost_deep ds x [] d i = absurd (both_ways false refl i)
innermost_deep ds x (z ∷ zs) d i = ap suc (ap (λ n. get_or ds n 0) (eqb-true x z i) ∙ d.0)

-- a new value begins a description; otherwise the subject's goes on
agrees_feature : (K : Type 0) (n : ℕ) (o : Open) (c : Compiling) → Agrees o c → (x f y : ℕ) → may_come {K = K} n (Feature x f y) o ≡ true →
    Agrees (after {K = K} (Feature x f y) o) (next {K = K} c (Feature x f y))
agrees_feature K n o c a x f y m =
    let here = to_deep c.depths x o.count o.path a.falling a.deep (subject_among {K = K} n (Feature x f y) o m) in
    let falls = falling_to x o.count o.path a.falling in
    let push = length_push c.depths (suc (depth_of c x)) in
    let met = a.met in
    elim (cases_eq y o.count) [
      | inl e ↦
          let p = eq-eqb y o.count e in
          let q = eq-eqb y (length c.depths) (e ∙ sym met) in
          let here_deep = get_or_push c.depths (suc (depth_of c x)) 0 y (met ∙ sym e) ∙ sym here.1 in
          let rest_deep = deep_more c.depths (suc (depth_of c x)) o.count (path_to x o.path) (omega arith) falls here.0 in
          record {
            met = rw (p, q) (omega arith);
            falling = rw p (omega arith, rw (← e) at falls);
            deep = rw (p, q) (deep_cons _ y _ here_deep rest_deep);
            innermost = rw (p, q) (ap suc (sym here.1));
          }
      | inr ne ↦
          let p = ne_eqb y o.count ne in
          let q = ne_eqb y (length c.depths) (λ e. ne (e ∙ met)) in
          record { met = rw (p, q) met; falling = rw p falls; deep = rw (p, q) here.0; innermost = rw (p, q) (sym here.1) }
    ]

module _ {K : Type 0} (n : ℕ) (o : Open) (c : Compiling) (a : Agrees o c) where
  pub agrees_next : (s : Statement K) → may_come n s o ≡ true → Agrees (after s o) (next c s)
  agrees_next (Kind x k) m =
      record { met = a.met; falling = a.falling; deep = a.deep; innermost = innermost_deep c.depths x o.path a.deep (kind_innermost n x k o m).1 }
  agrees_next (Feature x f y) m = agrees_feature K n o c a x f y m
