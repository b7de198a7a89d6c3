-- The texts of kinds: which bytes they have, where they stop, what reading and writing one says.
use Rattle.std.specs.Prelude.{◌≡◌, ℕ, ◌<◌, ◌≤◌, Bool, true, false, not, ◌&&◌, ◌||◌, List, [], ◌∷◌, ◌++◌, length, take, drop, Some, None, Option, ◌==◌, nat_le}
use Rattle.std.specs.List.{AllByRecursion}

-- a lower-case letter, a digit, an underscore, a hyphen or a point
abbrev pub part_byte : ℕ → Bool
part_byte b = (nat_le 97 b && nat_le b 122) || ((nat_le 48 b && nat_le b 57) || (b == 95 || (b == 45 || b == 46)))

-- one of these, or a solidus
abbrev pub text_byte : ℕ → Bool
text_byte b = part_byte b || b == 47

abbrev pub IsText : List ℕ → Type 0
IsText t = (0 < length t) × AllByRecursion (λ b. text_byte b ≡ true) t

-- a solidus, or a byte outside texts
abbrev pub stops : ℕ → Bool
stops b = not (part_byte b)

-- what may follow a text: nothing, a solidus, or a byte outside texts
abbrev pub Stops : List ℕ → Type 0
Stops [] = Unit {0}
Stops (b ∷ bs) = stops b ≡ true

-- no text of a single part stops before n, and texts stop there
pub record Stopped (bytes : List ℕ) (n : ℕ) : Type 0 where
  pub within : n ≤ length bytes
  pub before : AllByRecursion (λ b. stops b ≡ false) (take n bytes)
  pub after : Stops (drop n bytes)

-- the text of each kind that has one
pub record Texts (K : Type 0) : Type 0 where
  pub text : K → Option (List ℕ)
  pub lawful : (k : K) (t : List ℕ) → text k ≡ Some t → IsText t

-- a kind and a number of bytes that are read: the kind's text stands there, and texts stop after it
pub record Stands {K : Type 0} (m : Texts K) (bytes : List ℕ) (k : K) (n : ℕ) : Type 0 where
  pub front : List ℕ
  pub rest : List ℕ
  pub text : m.text k ≡ Some front
  pub stop : Stops rest
  pub whole : bytes ≡ front ++ rest
  pub count : n ≡ length front

-- every text that stands first, up to where texts stop, is read back as its kind
abbrev pub Back : {K : Type 0} → Texts K → List ℕ → Option (K × ℕ) → Type 0
Back {K} m bytes r = (k : K) (t rest : List ℕ) → m.text k ≡ Some t → Stops rest → bytes ≡ t ++ rest → r ≡ Some (k, length t)

abbrev pub Taken : {K : Type 0} → Texts K → List ℕ → Option (K × ℕ) → Type 0
Taken m bytes None = Unit {0}
Taken m bytes (Some p) = Stands m bytes p.0 p.1

-- a text that fits is put first, and the rest of the memory is kept; where it does not fit, or there is none, the answer is 0
abbrev pub Writes : Option (List ℕ) → List ℕ → List ℕ → ℕ → Type 0
Writes None before after n = n ≡ 0
Writes (Some t) before after n =
    (length t ≤ length before → (n ≡ length t) × (after ≡ t ++ drop (length t) before)) × (length before < length t → n ≡ 0)
