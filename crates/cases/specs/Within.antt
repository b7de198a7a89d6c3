-- The first n cells of a case with their slots: whether anything leads out of them, and that what lies past them is as it was. A middle
-- layer: no contract of a public call cites it.
use Rattle.std.specs.Prelude.{◌≡◌, ℕ, ◌*◌, ◌<◌, Bool, true, cond, ◌&&◌, List, ◌++◌, length, take, drop, Some, None, Option, nat_lt}
use Rattle.std.specs.List.{list_all}
use Rattle.joining.specs.declared.cell.Cell.{Cell}
use Rattle.joining.specs.Heap.{refers_in, slot_in}

-- what is in a slot is below n
abbrev pub content_below : ℕ → Option ℕ → Bool
content_below n (Some j) = nat_lt j n
content_below n None = true

-- the first n of one list, and the rest of another
abbrev pub first_of : {X : Type 0} → ℕ → List X → List X → List X
first_of n xs ys = take n xs ++ drop n ys

module _ {K : Type 0} (n features : ℕ) (cells : List (Cell K)) (slots : List (Option ℕ)) where
  -- whether no reference and no content leads out of the first n cells
  abbrev pub tidy : Bool
  tidy = list_all (λ c. nat_lt c.refers n) (take n cells) && list_all (content_below n) (take (n * features) slots)

  -- how many cells are copied before a change that is to come to no more than the first n: these, or all
  abbrev pub copied : ℕ
  copied = cond (nat_lt n (length cells) && tidy) n (length cells)

  -- nothing leads out of the first n cells
  pub record Within (top : K) : Type 0 where
    pub refers : (i : ℕ) → i < n → refers_in top cells i < n
    pub leads : (i f j : ℕ) → i < n → f < features → slot_in slots features i f ≡ Some j → j < n

  -- what lies past them is as it was
  abbrev pub Beyond : List (Cell K) → List (Option ℕ) → Type 0
  Beyond new_cells new_slots = (drop n new_cells ≡ drop n cells) × (drop (n * features) new_slots ≡ drop (n * features) slots)
