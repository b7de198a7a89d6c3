-- The first cells are copied before a change, and put back after it.
use Rattle.std.proofs.Common.{◌≡◌, ℕ, ◌+◌, ◌*◌, ◌<◌, ◌≤◌, ◌&&◌, true, List, ◌++◌, length, take, drop, nat_lt, Some, None, Option, sym, ap, ◌∙◌, subst, length-take-le, take-append-drop, arith}
use Rattle.std.proofs.lemmas.Bool.{cond_both, and_parts, ltb-true}
use Rattle.std.proofs.lemmas.List.{get_or-take, drop_all}
use Rattle.std.proofs.lemmas.List.Sums.{AllPass-from_list_all}
use Rattle.std.proofs.lemmas.Nat.{mul-add-lt, mul-le}
use Rattle.std.specs.List.{list_all}
use Rattle.joining.specs.declared.cell.Cell.{Cell}
use Rattle.joining.specs.Heap.{refers_in, slot_in}
use Rattle.cases.specs.Within.{content_below, first_of, tidy, copied, Within, Beyond}
use Rattle.cases.proofs.Parts.{first_part}

-- what was copied is put back over what is as it was past it
pub put_back : {X : Type 0} (n : ℕ) (xs ys zs copy back : List X) → n ≤ length xs → copy ≡ first_of n xs ys → back ≡ first_of n copy zs → drop n zs ≡ drop n xs → back ≡ xs
put_back {X} n xs ys zs copy back l c b e =
    b
    ∙ ap (λ (part : List X). take n part ++ drop n zs) c
    ∙ ap (λ (part : List X). part ++ drop n zs) (first_part n (take n xs) (drop n ys) (length-take-le n xs l))
    ∙ ap (λ (rest : List X). take n xs ++ rest) e
    ∙ take-append-drop n xs

module _ {K : Type 0} (n features : ℕ) (cells : List (Cell K)) (slots : List (Option ℕ)) where
  module _ (short : n < length cells) (rows : length slots ≡ length cells * features) (is : tidy n features cells slots ≡ true) where
    all_refer : list_all (λ (c : Cell K). nat_lt c.refers n) (take n cells) ≡ true
    all_refer = (and_parts _ _ is).0

    all_lead : list_all (content_below n) (take (n * features) slots) ≡ true
    all_lead = (and_parts _ _ is).1

    cells_within : (top : K) (i : ℕ) → i < n → refers_in top cells i < n
    unfolding refers_in
    cells_within top i l =
        let d : Cell K = record { refers = i; kind = top } in
        let inside : i < length (take n cells) = omega (arith, l, short, length-take-le n cells (omega (arith, short))) in
        subst (λ (c : Cell K). c.refers < n) (get_or-take n cells i d l) (ltb-true _ _ (AllPass-from_list_all _ (take n cells) all_refer i d inside))

    slots_within : (i f j : ℕ) → i < n → f < features → slot_in slots features i f ≡ Some j → j < n
    unfolding slot_in
    slots_within i f j l lf e =
        let p = i * features + f in
        let here : p < n * features = omega (arith, mul-add-lt i features f n l lf) in
        let fits : n * features ≤ length slots = omega (arith, rows, mul-le n features (length cells) features (omega (arith, short)) (omega arith)) in
        let inside : p < length (take (n * features) slots) = omega (arith, here, length-take-le (n * features) slots fits) in
        ltb-true _ _ (ap (content_below n) (sym (get_or-take (n * features) slots p None here ∙ e)) ∙ AllPass-from_list_all (content_below n) (take (n * features) slots) all_lead p None inside)

    tidy_within : (top : K) → Within n features cells slots top
    tidy_within top = record { refers = cells_within top; leads = slots_within }

  module _ (new_cells : List (Cell K)) (new_slots : List (Option ℕ)) (rows : length slots ≡ length cells * features)
      (same_cells : length new_cells ≡ length cells) (same_slots : length new_slots ≡ length slots) where
    all_beyond : Beyond (length cells) features cells slots new_cells new_slots
    all_beyond = (
      drop_all _ new_cells (omega (arith, same_cells)) ∙ sym (drop_all _ cells (omega arith)),
      drop_all _ new_slots (omega (arith, same_slots, rows)) ∙ sym (drop_all _ slots (omega (arith, rows))),
    )

    pub copied_beyond : (top : K) → (Within n features cells slots top → Beyond n features cells slots new_cells new_slots)
        → (r : ℕ) → r ≡ copied n features cells slots → Beyond r features cells slots new_cells new_slots
    copied_beyond top change r e =
        subst (λ (k : ℕ). Beyond k features cells slots new_cells new_slots) (sym e)
        (cond_both (nat_lt n (length cells) && tidy n features cells slots) n (length cells) (λ (k : ℕ). Beyond k features cells slots new_cells new_slots)
        (λ t. change (tidy_within (ltb-true _ _ (and_parts _ _ t).0) rows (and_parts _ _ t).1 top))
        (λ t. all_beyond))
