-- What declared features hold in memory.
use Rattle.std.specs.Prelude.{◌≡◌, ℕ, ◌<◌, ◌≤◌, cond, List, [], map, length, Some, None, Ok, Err, Option, Result, position, slice_index_or}
use Rattle.std.specs.Str.{bytes_eq}
use Rattle.refusals.specs.declared.Refusal.{Refusal}
use Rattle.declarations.specs.declared.name.Name.{Name}
use Rattle.declarations.specs.Held.{name_bytes}
use Rattle.declarations.specs.Names.{listed}
use Rattle.grammar.specs.Told.{index}
use Rattle.features.specs.declared.table.Features.{Features}
use Rattle.features.specs.Lines.{Accepts, Refuses}

-- the names of the features, in the order of their numbers
abbrev pub feature_names : Features → List (List ℕ)
feature_names f = map name_bytes f.names.items

-- the number of a feature, counting from 0, or none
abbrev pub number_of : List ℕ → List (List ℕ) → Option ℕ
number_of w features = cond (listed w features) (Some (index w features)) None

-- the same as the code searches for it, among names in memory
unfoldable pub first_named : List ℕ → List Name → Option ℕ
first_named w names = position (λ n. bytes_eq w (name_bytes n)) names

-- the name of the feature with this number, or none past the last
abbrev pub NameAt : List (List ℕ) → ℕ → Option Name → Type 0
NameAt features f (Some n) = (f < length features) × (name_bytes n ≡ slice_index_or features f [])
NameAt features f None = length features ≤ f

-- what a line declares, where there is room: its name, or a refusal
abbrev pub ReadsLine : List (List ℕ) → List ℕ → Result Name Refusal → Type 0
ReadsLine features line (Ok name) = Accepts features line × (name_bytes name ≡ line) × (length features < 16)
ReadsLine features line (Err e) = Refuses features line e
