-- What a contract sees of a short list.
use Rattle.std.specs.Prelude.{◌≡◌, ℕ, ◌<◌, ◌≤◌, List, [], ◌∷◌, ◌++◌, length, Some, None, Option, refl}
use Rattle.std.specs.Coded.{Coded, code_by, coded_list, coded×}

-- the items in order, and what lies in the room past them, of which no clause says anything
pub record ShortItems (T : Type 0) : Type 0 where
  pub items : List T
  pub spare : List T

abbrev pub short_items_code : {T : Type 0} → Coded T → Coded (ShortItems T)
short_items_code {T} code =
    code_by (List T × List T) (coded× (coded_list code) (coded_list code)) (λ v. (v.items, v.spare)) (λ p. record { items = p.0; spare = p.1 }) (λ _. refl)

-- an item more, behind the others; or no room for it, and nothing changes
abbrev pub Pushes : {T : Type 0} → ℕ → ShortItems T → T → ShortItems T → Option ℕ → Type 0
Pushes N old item new (Some i) = (length old.items < N) × (i ≡ length old.items) × (new.items ≡ old.items ++ item ∷ [])
Pushes N old item new None = (length old.items ≡ N) × (new ≡ old)

-- items for which there is room are held as they are, and no more of them
abbrev pub Fits : {T : Type 0} → ℕ → List T → Option (ShortItems T) → Type 0
Fits N items (Some l) = (length items ≤ N) × (l.items ≡ items)
Fits N items None = N < length items
