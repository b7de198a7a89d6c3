-- An item is put behind the others where there is room.
use Rattle.std.proofs.Common.{◌≡◌, ℕ, ◌<◌, [], ◌∷◌, ◌++◌, length, Some, None, Option, arith}
use Rattle.short_lists.specs.ShortLists.{ShortItems, Pushes}

pub pushed : {T : Type 0} (N : ℕ) (old : ShortItems T) (item : T) (new : ShortItems T) (r : Option ℕ) → Pushes N old item new r → length old.items < N → new.items ≡ old.items ++ item ∷ []
pushed N old item new (Some i) p l = p.2
pushed N old item new None p l = absurd (omega (arith, p.0))
