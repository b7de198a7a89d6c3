-- What a name in memory holds.
use Rattle.std.specs.Prelude.{◌≡◌, ℕ, ◌<◌, ◌≤◌, List, length, Some, None, Option}
use Rattle.declarations.specs.declared.name.Name.{Name}

abbrev pub name_bytes : Name → List ℕ
name_bytes n = n.text.items

-- a word of at most 24 bytes is held as it is, and no longer one
abbrev pub Holds : List ℕ → Option Name → Type 0
Holds word (Some n) = (length word ≤ 24) × (name_bytes n ≡ word)
Holds word None = 24 < length word
