-- A text that is the whole text of a kind.
use Rattle.std.specs.Prelude.{◌≡◌, ℕ, List, Some, None, Option, ◌≢◌}
use Rattle.orders.specs.Texts.{Texts}

-- some kind has this text, or none has
abbrev pub IsKind : {K : Type 0} → Texts K → List ℕ → Type 0
IsKind {K} m t = (k : K) × (m.text k ≡ Some t)

abbrev pub NoKind : {K : Type 0} → Texts K → List ℕ → Type 0
NoKind {K} m t = (k : K) → m.text k ≢ Some t

-- this kind has this text, and no other kind has it
abbrev pub OnlyKind : {K : Type 0} → Texts K → List ℕ → K → Type 0
OnlyKind {K} m t k = (m.text k ≡ Some t) × ((j : K) → m.text j ≡ Some t → j ≡ k)

-- the kind that has this text
abbrev pub KindOf : {K : Type 0} → Texts K → List ℕ → Option K → Type 0
KindOf m t (Some k) = OnlyKind m t k
KindOf m t None = NoKind m t
