-- Two cells of four are joined, and with them what their features lead to.
use Rattle.std.proofs.Common.{◌≡◌, ℕ, [], ◌∷◌, Some, None, refl}
use Rattle.orders.specs.Meaning.{Meaning}
use Rattle.joining.specs.declared.cell.Cell.{Cell}
use Rattle.joining.specs.Heap.{Heap, refers_in, kind_in, slot_in, follow, put_kind, put_refers, put_slot, new_cell}
use Rattle.joining.specs.Joining.{join, join_all, join_pair, join_ends, carry, carry_one, add_pair}

-- one kind
abbrev one : Meaning (Unit {0})
one =
    record {
      under = λ a b. Unit {0};
      widest = tt;
      common = λ a b. Some tt;
      itself = λ a. tt;
      widest_is = λ a. tt;
      through = λ a b c p q. tt;
      same = λ a b p q. refl;
      common_is = λ a b. (tt, tt, λ d p q. tt);
    }

-- a cell that refers to i
abbrev cell : ℕ → Cell (Unit {0})
cell i = new_cell tt i

-- 0 leads to 2, 1 leads to 3 and to 0, and 3 leads to 1
abbrev before : Heap (Unit {0})
before =
    record {
      used = 4;
      features = 2;
      cells = cell 0 ∷ cell 1 ∷ cell 2 ∷ cell 3 ∷ cell 4 ∷ [];
      slots = Some 2 ∷ None ∷ Some 3 ∷ Some 0 ∷ None ∷ None ∷ None ∷ Some 1 ∷ None ∷ None ∷ [];
    }

-- 1 refers to 0 and 3 to 2; what 1 and 3 lead to, 0 and 2 lead to as well
abbrev after : Heap (Unit {0})
after =
    record {
      used = 4;
      features = 2;
      cells = cell 0 ∷ cell 0 ∷ cell 2 ∷ cell 2 ∷ cell 4 ∷ [];
      slots = Some 2 ∷ Some 0 ∷ Some 3 ∷ Some 0 ∷ None ∷ Some 1 ∷ None ∷ Some 1 ∷ None ∷ None ∷ [];
    }

pub example : join one 0 1 before ≡ Some after
unfolding join_all join_pair join_ends carry carry_one add_pair put_kind put_refers put_slot refers_in kind_in slot_in follow
example = refl
