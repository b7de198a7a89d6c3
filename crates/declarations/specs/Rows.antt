-- Rows of bits: bit j of row i says that kind j is at or under kind i.
use Rattle.std.specs.Prelude.{ℕ, zero, suc, ◌/◌, ◌%◌, ◌^◌, Bool, true, cond, ◌&&◌, ◌||◌, List, [], ◌∷◌, ◌++◌, map, length, Some, None, filter, Option, ◌==◌, bit_and, bit_or, nat_lt, slice_index}
use Rattle.std.specs.Int.Count.{count_trailing_zeros}
use Rattle.std.specs.List.{range_with_len}
use Rattle.declarations.specs.Declarations.{Declaration}

-- whether bit j of a number is set
unfoldable pub bit : ℕ → ℕ → Bool
bit r zero = r % 2 == 1
bit r (suc j) = bit (r / 2) j

-- the numbers below n whose bit is set, rising
abbrev pub members : ℕ → ℕ → List ℕ
members n mask = filter (bit mask) (range_with_len 0 n)

-- a set of numbers as bits
unfoldable pub mask_of : List ℕ → ℕ
mask_of [] = 0
mask_of (x ∷ xs) = bit_or (2 ^ x) (mask_of xs)

-- a row once the kind n with the wider kinds `mask` is declared: the kind is at or under what one of them is at or under
abbrev pub grown : ℕ → ℕ → ℕ → ℕ
grown n mask row = cond (bit_and row mask == 0) row (bit_or row (2 ^ n))

abbrev pub add_row : List ℕ → ℕ → List ℕ
add_row rows mask = map (grown (length rows) mask) rows ++ 2 ^ length rows ∷ []

unfoldable pub add_rows : List ℕ → List Declaration → List ℕ
add_rows rows [] = rows
add_rows rows (d ∷ ds) = add_rows (add_row rows (mask_of d.wider)) ds

abbrev pub rows_of : List Declaration → List ℕ
rows_of ds = add_rows [] ds

abbrev pub row : List ℕ → ℕ → ℕ
row rows i = slice_index rows i

-- the lowest number whose bit is set, in rows of at most `limit` bits
abbrev pub lowest_in : ℕ → ℕ → Option ℕ
lowest_in limit r = cond (r == 0) None (Some (count_trailing_zeros limit r))

-- numbers past the last kind meet themselves and `any` only
abbrev pub stray_common : ℕ → ℕ → Option ℕ
stray_common a b = cond (a == b) (Some a) (cond (a == 0) (Some b) (cond (b == 0) (Some a) None))

-- the common kind of two numbers: the lowest that is under both
abbrev pub common_in : ℕ → List ℕ → ℕ → ℕ → Option ℕ
common_in limit rows a b =
    cond (nat_lt a (length rows) && nat_lt b (length rows)) (lowest_in limit (bit_and (row rows a) (row rows b))) (stray_common a b)

-- kinds under both a and b have a widest: all of them are at or under the lowest of them
abbrev pub meets : ℕ → List ℕ → ℕ → ℕ → Bool
meets limit rows a b =
    (bit_and (row rows a) (row rows b) == 0)
    || row rows (count_trailing_zeros limit (bit_and (row rows a) (row rows b))) == bit_and (row rows a) (row rows b)

-- the same at every b below n, and at every a below m
unfoldable pub meets_all : ℕ → List ℕ → ℕ → ℕ → Bool
meets_all limit rows a zero = true
meets_all limit rows a (suc n) = meets_all limit rows a n && meets limit rows a n

unfoldable pub closed_to : ℕ → List ℕ → ℕ → ℕ → Bool
closed_to limit rows n zero = true
closed_to limit rows n (suc m) = closed_to limit rows n m && meets_all limit rows m n

-- in these rows, kinds with something under both have a widest such kind: the one with the lowest number
abbrev pub closed : ℕ → List ℕ → Bool
closed limit rows = closed_to limit rows (length rows) (length rows)
