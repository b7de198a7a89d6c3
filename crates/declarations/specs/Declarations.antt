-- Declared kinds, in the order of their numbers, and which kinds are at or under which.
-- Example: after `any`, the declarations `a any`, `b any` and `c a b` have the numbers 1, 2 and 3; 3 is at or under 3, 1, 2 and 0.
use Rattle.std.specs.Prelude.{◌≡◌, ℕ, ◌<◌, Bool, true, false, cond, not, ◌&&◌, ◌||◌, ◌⊎◌, List, [], ◌∷◌, ◌++◌, map, length, Some, None, codes, Option, ◌==◌, nat_lt, slice_index_or}
use Rattle.std.specs.Str.{bytes_eq}
use Rattle.declarations.specs.Names.{is_name, listed}

-- a kind's name, and the numbers of its wider kinds, rising
pub record Declaration : Type 0 where
  pub name : List ℕ
  pub wider : List ℕ

-- kind 0, the widest: its name is `any`
abbrev pub any : Declaration
any = record { name = codes "any"; wider = [] }

-- what a number past the last kind counts as: a kind with no name, under `any` only
abbrev pub stray : Declaration
stray = record { name = []; wider = 0 ∷ [] }

abbrev pub name_of : List Declaration → ℕ → List ℕ
name_of ds k = (slice_index_or ds k stray).name

-- the name of a kind is its text; a number past the last kind has none
abbrev pub name_text : List Declaration → ℕ → Option (List ℕ)
name_text ds k = cond (nat_lt k (length ds)) (Some (name_of ds k)) None

abbrev pub wider_of : List Declaration → ℕ → List ℕ
wider_of ds k = (slice_index_or ds k stray).wider

unfoldable pub among : ℕ → List ℕ → Bool
among x [] = false
among x (y ∷ ys) = x == y || among x ys

-- `Under ds k l`: k is at or under l. A kind is at or under itself and all that its wider kinds are at or under.
pub data Under (ds : List Declaration) : ℕ → ℕ → Type 0 where
  itself : {k : ℕ} → Under ds k k
  above : {k w l : ℕ} → among w (wider_of ds k) ≡ true → Under ds w l → Under ds k l

-- c is at or under both a and b, and every kind at or under both is at or under c
pub record Widest (ds : List Declaration) (a b c : ℕ) : Type 0 where
  pub first : Under ds c a
  pub second : Under ds c b
  pub most : (k : ℕ) → Under ds k a → Under ds k b → Under ds k c

-- kinds under both a and b have no widest among them
abbrev pub NoWidest : List Declaration → ℕ → ℕ → Type 0
NoWidest ds a b = ((k : ℕ) × Under ds k a × Under ds k b) × ((c : ℕ) → Widest ds a b c → ⊥)

-- pairs with the lower number first; of two pairs that with the lower first number, then that with the lower second number, comes before
abbrev pub Before : ℕ → ℕ → ℕ → ℕ → Type 0
Before x y a b = (x < a) ⊎ ((x ≡ a) × (y < b))

-- a and b are the first pair whose kinds under both have no widest
pub record First (ds : List Declaration) (a b : ℕ) : Type 0 where
  pub order : a < b
  pub apart : NoWidest ds a b
  pub first : (x y : ℕ) → x < y → Before x y a b → NoWidest ds x y → ⊥

-- the names so far
abbrev pub names : List Declaration → List (List ℕ)
names ds = map (λ d. d.name) ds

unfoldable pub all_below : ℕ → List ℕ → Bool
all_below n [] = true
all_below n (x ∷ xs) = nat_lt x n && all_below n xs

-- a declaration that may follow those: a name of its own, and one or more wider kinds, all declared before it
abbrev pub follows : List Declaration → Declaration → Bool
follows ds d = is_name d.name && (not (listed d.name (names ds)) && (nat_lt 0 (length d.wider) && all_below (length ds) d.wider))

unfoldable pub follow_on : List Declaration → List Declaration → Bool
follow_on before [] = true
follow_on before (d ∷ ds) = follows before d && follow_on (before ++ d ∷ []) ds

-- `any`, and then declarations that may follow one another
abbrev pub sound : List Declaration → Bool
sound [] = false
sound (d ∷ ds) = (bytes_eq d.name any.name && length d.wider == 0) && follow_on (d ∷ []) ds
