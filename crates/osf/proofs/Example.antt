-- A run, computed, with the law at hand: a line is entered, two rules are matched, two cells are joined; then a rule clashes in its middle,
-- at a statement that is reached by writing and going back to reading. And an interpretation of what stands that is not the case.
use Rattle.std.proofs.Common.{◌≡◌, ℕ, true, List, [], ◌∷◌, ◌++◌, Some, None, Err, codes, refl, sym, subst, arith}
use Rattle.std.specs.List.{AllByRecursion}
use Rattle.refusals.specs.declared.Refusal.TheVariants.{Clash}
use lib.Count.{count_trailing_zeros}
use Rattle.orders.specs.Meaning.{Meaning}
use Rattle.declarations.specs.Declarations.{Declaration, Under, any, among, all_below, follow_on, sound}
use Rattle.declarations.specs.Declarations.Under.{itself, above}
use Rattle.declarations.specs.Names.{all_name, listed}
use Rattle.declarations.specs.Rows.{closed, rows_of, mask_of, add_rows, meets_all, closed_to}
use Rattle.declarations.proofs.Ordered.{order_of}
use Rattle.grammar.specs.declared.statement.Statement.{Statement}
use Rattle.grammar.specs.declared.statement.Statement.TheVariants.{Kind, Feature}
use Rattle.grammar.specs.Lawful.{depths_from, lawful_from, path_to, has}
use Rattle.joining.specs.Heap.{refers_in, kind_in, slot_in, follow, put_kind, put_refers, put_slot, put_new, emptied, new_cells}
use Rattle.joining.specs.Joining.{join_all, join_pair, join_ends, carry, carry_one, add_pair}
use Rattle.performing.specs.Performing.{narrowed, tied}
use Rattle.instructions.specs.Codes.{kinds as kinds_in, closes, entry_from, read_from, write_from}
use Rattle.instructions.specs.Steps.{entered, run as run_codes}
use Rattle.osf.specs.Facts.{Holds, Interpretation, is_kind, leads, one}
use Rattle.osf.specs.Calls.{Lent, LetThrough, matches, features_below}
use Rattle.osf.specs.Runs.{Case, OfTerm, after_call, first_with, Made, enter, match_rule, join, run, with_rule}
use Rattle.osf.specs.Law.{ClashesExactly, Law}
use Rattle.osf.proofs.Running.{law_of_runs}

-- 0 `any`, 1 `by_dd`, 2 `returned`, 3 `returned_dd` under both, 4 `fee`
abbrev kinds : List Declaration
kinds =
    any
    ∷ record { name = codes "by_dd"; wider = 0 ∷ [] }
    ∷ record { name = codes "returned"; wider = 0 ∷ [] }
    ∷ record { name = codes "returned_dd"; wider = 1 ∷ 2 ∷ [] }
    ∷ record { name = codes "fee"; wider = 0 ∷ [] }
    ∷ []

declared : sound kinds ≡ true
unfolding follow_on all_below all_name listed
declared = refl

all_meet : closed 64 (rows_of kinds) ≡ true
unfolding add_rows mask_of meets_all closed_to count_trailing_zeros
all_meet = refl

abbrev order : Meaning ℕ
order = order_of 64 kinds declared (omega arith) all_meet

-- memory enough for six cells and three features, `paid` (0), `back` (1) and `for` (2)
abbrev lent : Lent
lent = record { cells = 6; slots = 18; pending = 19; spare_cells = 6; spare_slots = 18 }

abbrev no_places : List ℕ
no_places = 9 ∷ 9 ∷ 9 ∷ 9 ∷ 9 ∷ []

-- any(paid=>by_dd,back=>returned)
abbrev line : List (Statement ℕ)
line = Kind 0 0 ∷ Feature 0 0 1 ∷ Kind 1 1 ∷ Feature 0 1 2 ∷ Kind 2 2 ∷ []

-- any(paid=>Y,back=>Y)
abbrev same : List (Statement ℕ)
same = Kind 0 0 ∷ Feature 0 0 1 ∷ Feature 0 1 1 ∷ []

-- any(back=>any)
abbrev back : List (Statement ℕ)
back = Kind 0 0 ∷ Feature 0 1 1 ∷ Kind 1 0 ∷ []

-- any(for=>any,paid=>fee,back=>any)
abbrev rule : List (Statement ℕ)
rule = Kind 0 0 ∷ Feature 0 2 1 ∷ Kind 1 0 ∷ Feature 0 0 2 ∷ Kind 2 4 ∷ Feature 0 1 3 ∷ Kind 3 0 ∷ []

terms : OfTerm line × OfTerm same × OfTerm back × OfTerm rule
unfolding lawful_from among has path_to
terms = ((3, refl), (3, refl), (3, refl), (3, refl))

-- the last call first: `same` is refused at a cell that is not in use, with reason 7
abbrev calls : List (Made ℕ)
calls =
    record { call = join 0 2; places = []; lent = lent }
    ∷ record { call = match_rule same 0; places = no_places; lent = lent }
    ∷ record { call = match_rule same 5; places = no_places; lent = lent }
    ∷ record { call = match_rule back 0; places = no_places; lent = lent }
    ∷ record { call = enter line; places = no_places; lent = lent }
    ∷ []

abbrev left : Case ℕ
left = run order 6 3 calls

-- cell 1 refers to cell 2, and that to cell 0, of kind `returned_dd`
heap_so : left.heap ≡
    record {
      used = 3;
      features = 3;
      cells = record { refers = 0; kind = 3 } ∷ record { refers = 2; kind = 1 } ∷ record { refers = 0; kind = 3 } ∷ record { refers = 3; kind = 0 } ∷ record { refers = 4; kind = 0 } ∷ record { refers = 5; kind = 0 } ∷ [];
      slots = Some 1 ∷ Some 2 ∷ None ∷ None ∷ None ∷ None ∷ None ∷ None ∷ None ∷ None ∷ None ∷ None ∷ None ∷ None ∷ None ∷ None ∷ None ∷ None ∷ [];
    }
unfolding run after_call first_with features_below depths_from closes kinds_in entry_from read_from write_from entered run_codes narrowed tied refers_in kind_in slot_in follow put_kind put_refers put_slot put_new emptied new_cells join_all join_pair join_ends carry carry_one add_pair add_rows mask_of count_trailing_zeros
heap_so = refl

-- the variables of the line are 0 to 2, those of the two rules 3, 4 and 5, 6; the refused rule adds nothing
facts_so : left.history.facts ≡
    is_kind 0 0 ∷ leads 0 0 1 ∷ is_kind 1 1 ∷ leads 0 1 2 ∷ is_kind 2 2
    ∷ one 3 0 ∷ is_kind 3 0 ∷ leads 3 1 4 ∷ is_kind 4 0
    ∷ one 5 0 ∷ is_kind 5 0 ∷ leads 5 0 6 ∷ leads 5 1 6
    ∷ one 0 2 ∷ []
unfolding run after_call first_with features_below depths_from closes kinds_in entry_from read_from write_from entered run_codes narrowed tied refers_in kind_in slot_in follow put_kind put_refers put_slot put_new emptied new_cells join_all join_pair join_ends carry carry_one add_pair add_rows mask_of count_trailing_zeros
facts_so = refl

law : Law order ℕ left
law = law_of_runs order ℕ 6 3 calls (tt, (terms.1, (terms.1, (terms.2, (terms.0, tt)))))

-- `for` is not there and is written, reading goes on, and the fifth of seven statements clashes
clash_so : (matches order lent rule 0 no_places left.heap).answer ≡ Err (Clash 5)
unfolding run after_call first_with features_below depths_from closes kinds_in entry_from read_from write_from entered run_codes narrowed tied refers_in kind_in slot_in follow put_kind put_refers put_slot put_new emptied new_cells join_all join_pair join_ends carry carry_one add_pair add_rows mask_of count_trailing_zeros
clash_so = refl

clashes : ClashesExactly order ℕ (λ s. left.history.facts ++ with_rule left rule 0 s) (matches order lent rule 0 no_places left.heap).answer
clashes = law.matching lent rule 0 no_places terms.3 (subst LetThrough (sym clash_so) tt)

-- by the law, then, what stands has no interpretation by numbers with the rule's first five statements, and has one with four
none_so : Interpretation ℕ order (left.history.facts ++ with_rule left rule 0 5) → ⊥
none_so = clashes.none 5 clash_so

some_so : Interpretation ℕ order (left.history.facts ++ with_rule left rule 0 4)
some_so = clashes.before 5 clash_so

-- one thing, of kind `returned_dd`, which all its features lead to
by_dd : Under kinds 3 1
unfolding among
by_dd = above refl itself

returned : Under kinds 3 2
unfolding among
returned = above refl itself

all : Under kinds 3 0
unfolding among
all = above {w = 1} refl (above refl itself)

all_one : Interpretation (Unit {0}) order left.history.facts
all_one =
    record {
      structure = record { kind_of = λ t. 3; feature = λ f t. Some tt };
      thing = λ x. tt;
      true_of =
          subst (AllByRecursion (Holds order (record { kind_of = λ t. 3; feature = λ f t. Some tt }) (λ x. tt))) (sym facts_so)
          (all, (refl, (by_dd, (refl, (returned, (refl, (all, (refl, (all, (refl, (all, (refl, (refl, (refl, tt))))))))))))));
    }
