-- A word is looked for among the names of kinds.
use Rattle.std.proofs.Common.{◌≡◌, ℕ, ◌<◌, Bool, false, List, [], ◌∷◌, map, length, get_or, Some, None, Option, sym, refl, ap, ◌∙◌, subst, inl, inr, arith}
use Rattle.std.specs.List.{position, position_or_len}
use Rattle.std.specs.Str.{bytes_eq}
use Rattle.std.proofs.lemmas.Bool.{both_ways, cond-true, lt-ltb, cases_lt}
use Rattle.std.proofs.lemmas.List.{length-map, get_or-map}
use Rattle.std.proofs.lemmas.List.Quantifiers.{position-Some}
use Rattle.std.proofs.lemmas.List.Sums.{fails_before_first}
use Rattle.std.proofs.lemmas.Option.{none-some}
use Rattle.std.proofs.lemmas.Slice.Eq.{bytes_eq-Decides}
use Rattle.declarations.specs.Names.{listed}
use Rattle.declarations.specs.Declarations.{stray, name_of}
use Rattle.declarations.specs.Lines.{Known}
use Rattle.declarations.specs.Held.{name_bytes}
use Rattle.declarations.proofs.Sound.{listed_at, not_listed}
use Rattle.kinds.specs.declared.table.Kind.{Kind}
use Rattle.kinds.specs.Model.{Finds}
use Rattle.kinds.specs.Stored.{declaration, first_named}

-- the name of a kind, as it lies in memory
pub name_stored : (kinds : List Kind) (k : ℕ) (d : Kind) → k < length kinds → name_of (map declaration kinds) k ≡ name_bytes (get_or kinds k d).name
name_stored kinds k d l = ap (λ e. e.name) (get_or-map declaration kinds k d stray l)

-- where the search finds nothing, no kind passes
module _ {X : Type 0} (p : X → Bool) (xs : List X) where
  none_passes : None ≡ position p xs → (k : ℕ) (d : X) → k < length xs → p (get_or xs k d) ≡ false
  none_passes e k d l =
      elim (cases_lt (position_or_len p xs) (length xs)) [
        | inl h ↦ absurd (none-some (position_or_len p xs) (e ∙ cond-true _ (Some (position_or_len p xs)) None (lt-ltb _ _ h)))
        | inr h ↦ fails_before_first p xs k d (omega arith)
      ]

-- what a search finds, where there is a kind
found : (w : List ℕ) (kinds : List Kind) (d : Kind) (r : Option ℕ) → r ≡ first_named w kinds → Finds (map declaration kinds) w r
unfolding first_named
found w kinds d (Some k) e =
    let (l, is, before) = position-Some (λ n. bytes_eq w (name_bytes n.name)) kinds k d (sym e) in
    let here : k < length (map declaration kinds) = omega (arith, length-map kinds declaration) in
    let named : name_of (map declaration kinds) k ≡ w = name_stored kinds k d l ∙ sym ((bytes_eq-Decides w _).0 is) in
    (here, named, subst (Known (map declaration kinds)) named (listed_at (map declaration kinds) k here))
found w kinds d None e =
    not_listed (map declaration kinds) w (λ k l named.
    let m : k < length kinds = omega (arith, length-map kinds declaration) in
    both_ways _ (none_passes _ kinds e k d m) ((bytes_eq-Decides w _).1 (sym named ∙ name_stored kinds k d m)))

-- the kind that a search finds
pub finds : (w : List ℕ) (kinds : List Kind) (r : Option ℕ) → r ≡ first_named w kinds → Finds (map declaration kinds) w r
unfolding first_named listed
finds w [] (Some k) e = absurd (none-some k (sym e))
finds w [] None e = refl
finds w (c ∷ cs) r e = found w (c ∷ cs) c r e
