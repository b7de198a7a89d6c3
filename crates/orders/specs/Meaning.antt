-- What an order of kinds means: a relation "at or under", a widest kind and a common kind, and the five rules that they keep.
use Rattle.std.specs.Prelude.{◌≡◌, Some, None, Option}

-- every kind is at or under t
abbrev pub IsWidest : {K : Type 0} → (K → K → Type 0) → K → Type 0
IsWidest under t = (k : _) → under k t

-- Some c: c is at or under both a and b, and every kind at or under both is at or under c. None: no kind is at or under both.
abbrev pub IsCommon : {K : Type 0} → (K → K → Type 0) → K → K → Option K → Type 0
IsCommon under a b (Some c) = under c a × under c b × ((k : _) → under k a → under k b → under k c)
IsCommon under a b None = (k : _) → under k a → under k b → ⊥

-- `under k l` says that k is at or under l
pub record Meaning (K : Type 0) : Type 1 where
  pub under : K → K → Type 0
  pub widest : K
  pub common : K → K → Option K
  pub itself : (k : K) → under k k
  pub widest_is : IsWidest under widest
  pub through : (k l m : K) → under k l → under l m → under k m
  pub same : (k l : K) → under k l → under l k → k ≡ l
  pub common_is : (a b : K) → IsCommon under a b (common a b)
