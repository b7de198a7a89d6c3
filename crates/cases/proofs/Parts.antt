-- What stands first in a memory, put back over it; and cells that are made new one by one.
use Rattle.std.proofs.Common.{◌≡◌, ℕ, ◌+◌, ◌<◌, List, [], ◌∷◌, ◌++◌, length, take, drop, set, refl, sym, ap, ◌∙◌, inl, inr, add-one, take-append-drop, length-take-le, arith}
use Rattle.std.proofs.lemmas.Bool.{cases_lt}
use Rattle.std.proofs.lemmas.List.{take-append-le, take_all, drop_all, append-nil, take_more_set}
use Rattle.joining.specs.declared.cell.Cell.{Cell}
use Rattle.joining.specs.Heap.{new_cells}
use Rattle.cases.specs.Calls.{over}

module _ {X : Type 0} where
  pub over_taken : (n : ℕ) (xs : List X) → over (take n xs) xs ≡ xs
  over_taken n xs =
      elim (cases_lt (length xs) n) [
        | inl l ↦
            let all = take_all n xs (omega arith) in
            ap (λ (ys : List X). ys ++ drop (length ys) xs) all
            ∙ ap (λ (ys : List X). xs ++ ys) (drop_all (length xs) xs (omega arith))
            ∙ append-nil xs
        | inr l ↦ ap (λ (k : ℕ). take n xs ++ drop k xs) (length-take-le n xs l) ∙ take-append-drop n xs
      ]

  -- a part that is as it was, with the rest
  pub part_back : (n : ℕ) (xs ys : List X) → ys ≡ take n xs → ys ++ drop n xs ≡ xs
  part_back n xs ys e = ap (λ (ys : List X). ys ++ drop n xs) e ∙ take-append-drop n xs

  -- the part itself
  pub first_part : (n : ℕ) (xs ys : List X) → length xs ≡ n → take n (xs ++ ys) ≡ xs
  first_part n xs ys e = take-append-le n xs ys (omega (arith, e)) ∙ take_all n xs (omega (arith, e))

module _ {K : Type 0} (top : K) where
  pub renewed_none : (cells : List (Cell K)) → take 0 cells ≡ new_cells top 0
  unfolding new_cells
  renewed_none cells = refl

  pub renewed_more : (cells : List (Cell K)) (i : ℕ) → i < length cells → take i cells ≡ new_cells top i
      → take (i + 1) (set cells i (record { refers = i; kind = top })) ≡ new_cells top (i + 1)
  unfolding new_cells
  renewed_more cells i l e =
      take_more_set cells i _ l
      ∙ ap (λ (c : List (Cell K)). c ++ record { refers = i; kind = top } ∷ []) e
      ∙ sym (ap (new_cells top) (add-one i))

  pub renewed_all : (cells : List (Cell K)) (n : ℕ) → n ≡ length cells → take n cells ≡ new_cells top n → cells ≡ new_cells top n
  renewed_all cells n l e = sym (take_all n cells (omega arith)) ∙ e
