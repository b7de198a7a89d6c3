-- Lines byte by byte: what their parts say of a grammar, and where a line breaks it.
use Rattle.std.specs.Prelude.{◌≡◌, ℕ, Bool, true, List, [], ◌∷◌, Some, None, Option}
use Rattle.refusals.specs.Places.{Breaks}

-- where bytes lead from a part of the line, by the part that comes next
unfoldable pub runs : {P : Type 0} → (P → ℕ → Option P) → P → List ℕ → Option P
runs next p [] = Some p
runs next p (b ∷ bs) = elim (next p b) [ Some q ↦ runs next q bs | None ↦ None ]

-- from part p these bytes lead to an end
abbrev pub RunsOut : {P : Type 0} → (P → ℕ → Option P) → (P → Bool) → P → List ℕ → Type 0
RunsOut {P} next last p bytes = (q : P) × (runs next p bytes ≡ Some q) × (last q ≡ true)

-- the parts decide which lines are lawful
pub record Decides {P : Type 0} (first : P) (next : P → ℕ → Option P) (last : P → Bool) (Lawful : List ℕ → Type 0) : Type 0 where
  -- what leads from the beginning to an end is lawful, and a lawful line leads there
  pub sound : (line : List ℕ) → RunsOut next last first line → Lawful line
  pub complete : (line : List ℕ) → Lawful line → RunsOut next last first line
  -- from every part some bytes lead to an end
  pub live : (p : P) → (more : List ℕ) × RunsOut next last p more

-- whether a line is lawful, or where it breaks
abbrev pub Scanned : (List ℕ → Type 0) → List ℕ → Option ℕ → Type 0
Scanned Lawful line None = Lawful line
Scanned Lawful line (Some p) = Breaks Lawful line p
