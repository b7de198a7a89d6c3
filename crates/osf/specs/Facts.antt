-- Facts about variables, and what makes them true.
use Rattle.std.specs.Prelude.{◌≡◌, ℕ, ◌+◌, List, map, Some}
use Rattle.std.specs.List.{AllByRecursion}
use Rattle.orders.specs.Meaning.{Meaning}
use Rattle.grammar.specs.declared.statement.Statement.{Statement}
use Rattle.grammar.specs.declared.statement.Statement.TheVariants.{Kind, Feature}
use Rattle.joining.specs.Interpretation.{Structure}

-- the variable x is at or under a kind; the feature f of x is y; x and y are one
pub data Fact (K : Type 0) : Type 0 where
  is_kind : (x : ℕ) → K → Fact K
  leads : (x f y : ℕ) → Fact K
  one : (x y : ℕ) → Fact K

abbrev pub Holds : {K T : Type 0} → Meaning K → Structure K T → (ℕ → T) → Fact K → Type 0
Holds m s thing (is_kind x k) = m.under (s.kind_of (thing x)) k
Holds m s thing (leads x f y) = s.feature f (thing x) ≡ Some (thing y)
Holds m s thing (one x y) = thing x ≡ thing y

-- a set T of things, each with one kind and at most one thing for each feature, and a thing for each variable, making the facts true
pub record Interpretation {K : Type 0} (T : Type 0) (m : Meaning K) (facts : List (Fact K)) : Type 0 where
  pub structure : Structure K T
  pub thing : ℕ → T
  pub true_of : AllByRecursion (Holds m structure thing) facts

-- what a statement of a term says where the term's variables are numbered from b on
abbrev pub fact : {K : Type 0} → ℕ → Statement K → Fact K
fact b (Kind x k) = is_kind (b + x) k
fact b (Feature x f y) = leads (b + x) f (b + y)

abbrev pub facts_of : {K : Type 0} → ℕ → List (Statement K) → List (Fact K)
facts_of b ss = map (fact b) ss
