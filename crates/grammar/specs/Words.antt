-- The words of a line: names, features and kind texts.
use Rattle.std.specs.Prelude.{ℕ, Bool, true, false, ◌&&◌, ◌||◌, List, [], ◌∷◌, nat_le}
use Rattle.declarations.specs.Names.{letter, name_byte}
use Rattle.orders.specs.Texts.{text_byte}

abbrev pub capital : ℕ → Bool
capital b = nat_le 65 b && nat_le b 90

-- a letter of either case, or a digit
abbrev pub name_letter : ℕ → Bool
name_letter b = capital b || (letter b || (nat_le 48 b && nat_le b 57))

unfoldable pub all_by : (ℕ → Bool) → List ℕ → Bool
all_by p [] = true
all_by p (b ∷ bs) = p b && all_by p bs

-- one byte or more, the first and the others each of a class
abbrev pub is_word : (ℕ → Bool) → (ℕ → Bool) → List ℕ → Bool
is_word first other [] = false
is_word first other (b ∷ bs) = first b && all_by other bs

-- a name begins with a capital and goes on with letters and digits
abbrev pub is_variable : List ℕ → Bool
is_variable w = is_word capital name_letter w

-- a feature is written as the name of a kind is
abbrev pub is_feature : List ℕ → Bool
is_feature w = is_word letter name_byte w

-- a kind text has one byte or more that texts have
abbrev pub is_text : List ℕ → Bool
is_text w = is_word text_byte text_byte w
