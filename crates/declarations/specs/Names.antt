-- Names of kinds: a lower-case letter followed by lower-case letters, digits or underscores.
use Rattle.std.specs.Prelude.{ℕ, Bool, true, false, ◌&&◌, ◌||◌, List, [], ◌∷◌, ◌==◌, nat_le}
use Rattle.std.specs.Str.{bytes_eq}

abbrev pub letter : ℕ → Bool
letter b = nat_le 97 b && nat_le b 122

abbrev pub name_byte : ℕ → Bool
name_byte b = letter b || ((nat_le 48 b && nat_le b 57) || b == 95)

unfoldable pub all_name : List ℕ → Bool
all_name [] = true
all_name (b ∷ bs) = name_byte b && all_name bs

abbrev pub is_name : List ℕ → Bool
is_name [] = false
is_name (b ∷ bs) = letter b && all_name bs

-- whether a word stands among words
unfoldable pub listed : List ℕ → List (List ℕ) → Bool
listed w [] = false
listed w (v ∷ vs) = bytes_eq w v || listed w vs
