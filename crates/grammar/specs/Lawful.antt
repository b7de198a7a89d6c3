-- What the statements of every term keep, as a test; and the depths of its variables.
--
-- Variables come in the order of their first places; the subject of a statement is on the path of descriptions that are open; a kind
-- statement stands right after its variable is met; no variable has a feature twice; features are declared ones.
use Rattle.std.specs.Prelude.{ℕ, suc, Bool, true, false, cond, not, ◌&&◌, ◌||◌, List, [], ◌∷◌, ◌++◌, map, length, ◌==◌, nat_le, nat_lt, slice_index}
use Rattle.declarations.specs.Declarations.{among}
use Rattle.grammar.specs.declared.statement.Statement.{Statement}
use Rattle.grammar.specs.declared.statement.Statement.TheVariants.{Kind, Feature}
use Rattle.grammar.specs.declared.statement.Said.{Said}

-- between two statements: the variables on the open path, the innermost first; how many are met; whether the innermost was met just
-- now; which features of which variables are told
pub record Open : Type 0 where
  pub path : List ℕ
  pub count : ℕ
  pub fresh : Bool
  pub features : List (ℕ × ℕ)

-- at first the root is met
abbrev pub root : Open
root = record { path = 0 ∷ []; count = 1; fresh = true; features = [] }

-- the path down to a variable
unfoldable pub path_to : ℕ → List ℕ → List ℕ
path_to x [] = []
path_to x (y ∷ ys) = cond (x == y) (y ∷ ys) (path_to x ys)

abbrev pub innermost : ℕ → List ℕ → Bool
innermost x [] = false
innermost x (y ∷ ys) = x == y

unfoldable pub has : ℕ → ℕ → List (ℕ × ℕ) → Bool
has x f [] = false
has x f (p ∷ ps) = (x == p.0 && f == p.1) || has x f ps

-- whether a statement may come next; n features are declared
abbrev pub may_come : {K : Type 0} → ℕ → Statement K → Open → Bool
may_come n (Kind x k) o = o.fresh && innermost x o.path
may_come n (Feature x f y) o = among x o.path && (not (has x f o.features) && (nat_le y o.count && nat_lt f n))

abbrev pub after : {K : Type 0} → Statement K → Open → Open
after (Kind x k) o = record { path = o.path; count = o.count; fresh = false; features = o.features }
after (Feature x f y) o =
    record {
      path = cond (y == o.count) (y ∷ path_to x o.path) (path_to x o.path);
      count = cond (y == o.count) (suc o.count) o.count;
      fresh = (y == o.count);
      features = (x, f) ∷ o.features;
    }

unfoldable pub lawful_from : {K : Type 0} → ℕ → Open → List (Statement K) → Bool
lawful_from n o [] = true
lawful_from n o (s ∷ ss) = may_come n s o && lawful_from n (after s o) ss

abbrev pub lawful : {K : Type 0} → ℕ → List (Statement K) → Bool
lawful n ss = lawful_from n root ss

-- the root has depth 0, and a value that is met first in a feature statement one more than the subject
unfoldable pub depths_from : {K : Type 0} → List ℕ → List (Statement K) → List ℕ
depths_from ds [] = ds
depths_from ds (Kind x k ∷ ss) = depths_from ds ss
depths_from ds (Feature x f y ∷ ss) = depths_from (cond (y == length ds) (ds ++ suc (slice_index ds x) ∷ []) ds) ss

-- the depths of the variables, of which there are as many
abbrev pub depths : {K : Type 0} → List (Statement K) → List ℕ
depths ss = depths_from (0 ∷ []) ss

abbrev pub statements : {K : Type 0} → List (Said K) → List (Statement K)
statements ss = map (λ s. s.statement) ss
