-- The statements of a term fit one after the other, and so many variables are met as it has.
use Rattle.std.proofs.Common.{◌≡◌, ℕ, true, not, nat_le, ◌&&◌, List, [], ◌∷◌, nat_lt, refl, sym, ap, ltb-true}
use Rattle.std.proofs.lemmas.Bool.{and_parts, and_from}
use Rattle.declarations.specs.Declarations.{among}
use Rattle.grammar.specs.declared.statement.Statement.{Statement}
use Rattle.grammar.specs.declared.statement.Statement.TheVariants.{Kind, Feature}
use Rattle.grammar.specs.Lawful.{Open, root, has, lawful, lawful_from, may_come, after}
use Rattle.grammar.proofs.Opens.{falling_among}
use Rattle.performing.specs.Following.{Fits, AllFit, met_after, met_by}
use Rattle.instructions.specs.Codes.{Compiling, beginning, next}
use Rattle.instructions.proofs.Agreeing.{Agrees, agrees_root, agrees_next, subject_among, value_met}
use Rattle.instructions.proofs.Counted.{counted}
use Rattle.osf.specs.Calls.{features_below, variables_of}

one_fits : {K : Type 0} (n f : ℕ) (o : Open) (c : Compiling) → Agrees o c → (s : Statement K) → may_come n s o ≡ true → features_below f (s ∷ []) ≡ true → Fits f o.count s
unfolding features_below
one_fits n f o c a (Kind x k) m b = falling_among x o.count o.path a.falling (subject_among n (Kind x k) o m)
one_fits {K} n f o c a (Feature x g y) m b =
    (falling_among x o.count o.path a.falling (subject_among {K = K} n (Feature x g y) o m), ltb-true g f ((and_parts (nat_lt g f) true b).0), value_met n x g y o K m)

features_parts : {K : Type 0} (f : ℕ) (s : Statement K) (ss : List (Statement K)) → features_below f (s ∷ ss) ≡ true → (features_below f (s ∷ []) ≡ true) × (features_below f ss ≡ true)
unfolding features_below
features_parts f (Kind x k) ss b = (refl, b)
features_parts f (Feature x g y) ss b = let (l, r) = and_parts (nat_lt g f) (features_below f ss) b in (ap (λ t. t && true) l, r)

met_next : {K : Type 0} (o : Open) (s : Statement K) → (after s o).count ≡ met_after o.count s
met_next o (Kind x k) = refl
met_next o (Feature x f y) = refl

all_from : {K : Type 0} (n f : ℕ) (o : Open) (c : Compiling) → Agrees o c → (ss : List (Statement K)) → lawful_from n o ss ≡ true → features_below f ss ≡ true → AllFit f o.count ss
unfolding lawful_from AllFit
all_from n f o c a [] l b = tt
all_from n f o c a (s ∷ ss) l b =
    let (m, r) = and_parts (may_come n s o) (lawful_from n (after s o) ss) l in
    let (d, e) = features_parts f s ss b in
    (one_fits n f o c a s m d, rw (sym (met_next o s)) (all_from n f (after s o) (next c s) (agrees_next n o c a s m) ss r e))

pub all_fit : {K : Type 0} (n f : ℕ) (ss : List (Statement K)) → lawful n ss ≡ true → features_below f ss ≡ true → AllFit f 1 ss
all_fit n f ss l b = all_from n f root beginning agrees_root ss l b

pub all_met : {K : Type 0} (ss : List (Statement K)) → met_by 1 ss ≡ variables_of ss
all_met ss = counted ss

-- a term whose features are all below f is a term over f features
may_over : {K : Type 0} (n f : ℕ) (o : Open) (s : Statement K) → may_come n s o ≡ true → features_below f (s ∷ []) ≡ true → may_come f s o ≡ true
unfolding features_below
may_over n f o (Kind x k) m b = m
may_over n f o (Feature x g y) m b =
    let (a, r) = and_parts (among x o.path) _ m in
    let (d, q) = and_parts (not (has x g o.features)) _ r in
    let (l, p) = and_parts (nat_le y o.count) (nat_lt g n) q in
    and_from _ _ a (and_from _ _ d (and_from _ _ l ((and_parts (nat_lt g f) true b).0)))

over_from : {K : Type 0} (n f : ℕ) (o : Open) (ss : List (Statement K)) → lawful_from n o ss ≡ true → features_below f ss ≡ true → lawful_from f o ss ≡ true
unfolding lawful_from
over_from n f o [] l b = refl
over_from n f o (s ∷ ss) l b =
    let (m, r) = and_parts (may_come n s o) (lawful_from n (after s o) ss) l in
    let (d, e) = features_parts f s ss b in
    and_from _ _ (may_over n f o s m d) (over_from n f (after s o) ss r e)

pub lawful_over : {K : Type 0} (n f : ℕ) (ss : List (Statement K)) → lawful n ss ≡ true → features_below f ss ≡ true → lawful f ss ≡ true
lawful_over n f ss l b = over_from n f root ss l b
