-- Eight worked examples, over the definitions of orders, lines, codes and calls.
--
--   1  entry returned_dd                           rule receipt                  clash at 1
--   2  entry by_dd                                 rule returned                 the root is returned_dd
--   3  entry any(paid=>by_dd,back=>returned)       rule any(paid=>Y,back=>Y)     cell 1 refers to cell 2, of kind returned_dd
--   4  then                                        rule any(paid=>fee)           clash at 3
--   5  entry any(a=>any(f=>credit),b=>any(f=>debit))   rule any(a=>Y,b=>Y)       clash at 3
--   6  bands -10..0 and 0..5 have 0..0; -10..-1 and 0..5 have none
--   7  declaring a any, b any, c a b, d a b, then closing: 1 and 2 have no widest kind under both
--   8  with one cell of 4 in use, a rule with 4 variables is let through, and one with 5 is refused with 9
use Rattle.std.specs.Prelude.{◌≡◌, ℕ, ◌+◌, ◌*◌, List, [], ◌∷◌, take, Some, None, Ok, Err, Result, codes, replicate, pos, neg_ℤ}
use Rattle.refusals.specs.declared.Refusal.{Refusal}
use Rattle.refusals.specs.declared.Refusal.TheVariants.{NoWidest, Full, Clash}
use Rattle.bands.specs.declared.band.Band.{Band}
use Rattle.bands.specs.Bands.{common}
use Rattle.bands.specs.Texts.{text}
use Rattle.declarations.specs.Declarations.{Declaration, First, any}
use Rattle.declarations.specs.Lines.{Accepts}
use Rattle.grammar.specs.declared.statement.Statement.{Statement}
use Rattle.joining.specs.Heap.{refers, kind}
use Rattle.kinds.specs.Lists.{Closing, Closes}
use Rattle.osf.specs.Calls.{Lent, kind_asked, matches}
use Rattle.osf.specs.Runs.{Case, enter, match_rule, run}
use Rattle.worked.specs.Shipped.{order}
use Rattle.worked.specs.Lines.{AllSay, returned_dd, receipt, by_dd, returned, paid_and_back, same, paid_fee, two, both, anything, four, five}

-- memory for a case of so many cells and seven features, and a list of eight places
abbrev pub memory : ℕ → Lent
memory n = record { cells = n; slots = n * 7; pending = n * 7 + 1; spare_cells = n; spare_slots = n * 7 }

abbrev pub places : List ℕ
places = replicate 8 0

-- a case of n cells in which a line is entered, and one in which a rule is then matched at its root
abbrev pub entered : ℕ → List (Statement ℕ) → Case ℕ
entered n line = run order n 7 (record { call = enter line; places = places; lent = memory n } ∷ [])

abbrev pub matched : ℕ → List (Statement ℕ) → List (Statement ℕ) → Case ℕ
matched n line rule =
    run order n 7 (record { call = match_rule rule 0; places = places; lent = memory n } ∷ record { call = enter line; places = places; lent = memory n } ∷ [])

-- what matching a rule at the root of a case answers
abbrev pub answer : ℕ → Case ℕ → List (Statement ℕ) → Result ℕ Refusal
answer n c rule = (matches order (memory n) rule 0 places c.heap).answer

abbrev pub band : List ℕ → Band → Type 0
band t b = text b ≡ Some t

abbrev pub minus_ten_to_0 : Band
minus_ten_to_0 = record { low = neg_ℤ (pos 10); high = pos 0 }

abbrev pub minus_ten_to_minus_1 : Band
minus_ten_to_minus_1 = record { low = neg_ℤ (pos 10); high = neg_ℤ (pos 1) }

abbrev pub nought_to_5 : Band
nought_to_5 = record { low = pos 0; high = pos 5 }

abbrev pub nought : Band
nought = record { low = pos 0; high = pos 0 }

-- the kinds that come of declaring four lines
abbrev pub a_b_c_d : List Declaration
a_b_c_d =
    any
    ∷ record { name = codes "a"; wider = 0 ∷ [] }
    ∷ record { name = codes "b"; wider = 0 ∷ [] }
    ∷ record { name = codes "c"; wider = 1 ∷ 2 ∷ [] }
    ∷ record { name = codes "d"; wider = 1 ∷ 2 ∷ [] }
    ∷ []

-- the lines that declare them are accepted one after the other
pub record Declared : Type 0 where
  pub a : Accepts 64 (take 1 a_b_c_d) (codes "a any") (record { name = codes "a"; wider = 0 ∷ [] })
  pub b : Accepts 64 (take 2 a_b_c_d) (codes "b any") (record { name = codes "b"; wider = 0 ∷ [] })
  pub c : Accepts 64 (take 3 a_b_c_d) (codes "c a b") (record { name = codes "c"; wider = 1 ∷ 2 ∷ [] })
  pub d : Accepts 64 (take 4 a_b_c_d) (codes "d a b") (record { name = codes "d"; wider = 1 ∷ 2 ∷ [] })

-- and closing them has this outcome and no other
abbrev pub RefusedToClose : Refusal → Type 0
RefusedToClose e = (before after : Closing) (r : Result (Unit {0}) Refusal) → Closes a_b_c_d before after r → r ≡ Err e

pub record Bands : Type 0 where
  pub first : band (codes "-10..0") minus_ten_to_0
  pub second : band (codes "0..5") nought_to_5
  pub third : band (codes "-10..-1") minus_ten_to_minus_1
  pub fourth : band (codes "0..0") nought
  pub meet : common minus_ten_to_0 nought_to_5 ≡ Some nought
  pub apart : common minus_ten_to_minus_1 nought_to_5 ≡ None

pub record Table : Type 0 where
  pub lines : AllSay
  pub one : answer 8 (entered 8 returned_dd) receipt ≡ Err (Clash 1)
  pub two_kind : kind_asked order (memory 8) 0 (matched 8 by_dd returned).heap ≡ Ok 7
  pub three_refers : refers 0 (matched 8 paid_and_back same).heap 1 ≡ 2
  pub three_kind : kind 0 (matched 8 paid_and_back same).heap 2 ≡ 7
  pub four_clash : answer 8 (matched 8 paid_and_back same) paid_fee ≡ Err (Clash 3)
  pub five_clash : answer 8 (entered 8 two) both ≡ Err (Clash 3)
  pub six : Bands
  pub seven_lines : Declared
  pub seven_first : First a_b_c_d 1 2
  pub seven_refused : RefusedToClose (NoWidest 1 2)
  pub eight_one_used : (entered 4 anything).heap.used ≡ 1
  pub eight_accepted : answer 4 (entered 4 anything) four ≡ Ok 4
  pub eight_refused : answer 4 (entered 4 anything) five ≡ Err Full
