-- One kind more in memory.
use Rattle.std.proofs.Common.{◌≡◌, ℕ, ◌+◌, ◌^◌, ◌<◌, true, cond, eqb, List, [], ◌∷◌, ◌++◌, map, length, get_or, set, take, drop, sym, refl, ap, ◌∙◌, subst, ap₂, arith}
use lib.Bits.{bit_and, bit_or}
use Rattle.std.proofs.lemmas.List.{length-map, map_push, map_more, take_more_set, drop-set-lt, drop-drop, get_or-drop}
use Rattle.declarations.specs.Declarations.{sound, follows}
use Rattle.declarations.specs.Rows.{grown, add_row, rows_of}
use Rattle.declarations.proofs.Sound.{sound_push}
use Rattle.declarations.proofs.Grown.{rows_push}
use Rattle.kinds.specs.declared.table.Kind.{Kind}
use Rattle.kinds.specs.Stored.{declaration, with_new}
use Rattle.kinds.proofs.Members.{mask_members}

-- one item more is changed in place: those before are, and those behind are as they were
pub changed_onward : {X : Type 0} (f : X → X) (now old : List X) (i : ℕ) (d : X) → i < length now → length now ≡ length old → take i now ≡ map f (take i old) → drop i now ≡ drop i old →
    (take (i + 1) (set now i (f (get_or now i d))) ≡ map f (take (i + 1) old)) × (drop (i + 1) (set now i (f (get_or now i d))) ≡ drop (i + 1) old)
changed_onward f now old i d l size t r =
    let e : i + 0 ≡ i = omega arith in
    let at : get_or now i d ≡ get_or old i d =
    ap (λ n. get_or now n d) (sym e) ∙ sym (get_or-drop i now 0 d) ∙ ap (λ xs. get_or xs 0 d) r ∙ get_or-drop i old 0 d ∙ ap (λ n. get_or old n d) e in (
      take_more_set now i (f (get_or now i d)) l ∙ ap₂ (λ xs x. xs ++ f x ∷ []) t at ∙ sym (map_more f old i d (omega arith)),
      drop-set-lt (i + 1) now i (f (get_or now i d)) (omega arith) ∙ sym (drop-drop 1 i now) ∙ ap (drop 1) r ∙ drop-drop 1 i old,
    )

module _ (k : Kind) where
  -- a kind more leaves the declarations of the others
  same_declared : (kinds : List Kind) → map declaration (map (with_new k) kinds) ≡ map declaration kinds
  same_declared [] = refl
  same_declared (e ∷ es) = ap (λ ds. declaration e ∷ ds) (same_declared es)

  -- and puts its bit into the rows that are to have it
  rows_grown : (n : ℕ) → k.row ≡ 2 ^ n → (kinds : List Kind) → map (λ e. e.row) (map (with_new k) kinds) ≡ map (grown n k.wider) (map (λ e. e.row) kinds)
  rows_grown n is [] = refl
  rows_grown n is (e ∷ es) =
      ap₂ (λ r rs. r ∷ rs) (ap (λ b. cond (eqb (bit_and e.row k.wider) 0) e.row (bit_or e.row b)) is) (rows_grown n is es)

  module _ (kinds : List Kind) where
    pub declared_push : map declaration (map (with_new k) kinds ++ k ∷ []) ≡ map declaration kinds ++ declaration k ∷ []
    declared_push = map_push declaration (map (with_new k) kinds) k ∙ ap (λ ds. ds ++ declaration k ∷ []) (same_declared kinds)

    pub sound_added : sound (map declaration kinds) ≡ true → follows (map declaration kinds) (declaration k) ≡ true → sound (map declaration (map (with_new k) kinds ++ k ∷ [])) ≡ true
    sound_added s f = subst (λ ds. sound ds ≡ true) (sym declared_push) (sound_push (map declaration kinds) (declaration k) s f)

    pub rows_added : k.row ≡ 2 ^ length kinds → k.wider < 2 ^ 64 → map (λ e. e.row) kinds ≡ rows_of (map declaration kinds) → map (λ e. e.row) (map (with_new k) kinds ++ k ∷ []) ≡ rows_of (map declaration (map (with_new k) kinds ++ k ∷ []))
    rows_added is small right =
        let rows : List ℕ = map (λ e. e.row) kinds in
        let size : length kinds ≡ length rows = sym (length-map kinds (λ e. e.row)) in
        map_push (λ e. e.row) (map (with_new k) kinds) k
        ∙ ap₂ (λ rs r. rs ++ r ∷ []) (rows_grown (length kinds) is kinds) is
        ∙ ap (λ n. map (grown n k.wider) rows ++ 2 ^ n ∷ []) size
        ∙ ap (λ rs. add_row rs k.wider) right
        ∙ ap (add_row (rows_of (map declaration kinds))) (sym (mask_members 64 k.wider small))
        ∙ sym (rows_push (map declaration kinds) (declaration k)) ∙ ap rows_of (sym declared_push)
