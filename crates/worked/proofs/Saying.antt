-- The lines of the examples are accepted, and say what the table has.
use Rattle.std.proofs.Common.{◌≡◌, ℕ, ◌≤◌, List, [], ◌∷◌, length, None, codes, refl, arith, inl, inr}
use Rattle.declarations.specs.Names.{all_name, listed}
use Rattle.grammar.specs.declared.statement.Statement.TheVariants.{Kind, Feature}
use Rattle.grammar.specs.declared.statement.Said.{Said}
use Rattle.grammar.specs.Words.{all_by}
use Rattle.grammar.specs.Trees.{Tree, bare, described, none, item, limits, no_limits, LawfulTree, written}
use Rattle.grammar.specs.Told.{told, tell, index}
use Rattle.grammar.specs.Lines.{TooMuch, Reads}
use Rattle.grammar.specs.Lawful.{depths, depths_from, statements}
use Rattle.grammar.proofs.Breaking.{lawful-within}
use Rattle.settings.specs.Words.{words}
use Rattle.worked.specs.Shipped.{texts}
use Rattle.worked.specs.Lines.{Says, AllSay}

not_much : (line : List ℕ) (t : Tree) → LawfulTree limits 0 t → written t ≡ line → length line ≤ 1000 → TooMuch line → ⊥
not_much line t l w n (inl h) = omega (arith, n, h)
not_much line t l w n (inr h) = lawful-within line t l w h

-- a tree within the limits, whose words are right
says : (line : List ℕ) (t : Tree) (us : List (Said ℕ)) → LawfulTree limits 0 t → LawfulTree no_limits 0 t → written t ≡ line → length line ≤ 1000 → (told words t).wrong ≡ None
    → Reads texts (told words t).said us → length us ≤ 399 → length (depths (statements us)) ≡ length (told words t).names → Says line (statements us)
says line t us l m w n right reads few count =
    (us, record { words = record { tree = t; lawful = m; whole = w; within = not_much line t l w n }; right = right; said = reads; fits = few; variables = count }, refl)

returned_dd_says : Says (codes "returned_dd") (Kind 0 7 ∷ [])
unfolding LawfulTree all_by all_name written tell index listed depths_from
returned_dd_says =
    says (codes "returned_dd") (described None (codes "returned_dd") none)
    (record { statement = Kind 0 7; place = 0 } ∷ [])
    (tt, refl, tt) (tt, refl, tt) refl (omega arith) refl ((refl, refl), refl, tt) (omega arith) refl

receipt_says : Says (codes "receipt") (Kind 0 4 ∷ [])
unfolding LawfulTree all_by all_name written tell index listed depths_from
receipt_says =
    says (codes "receipt") (described None (codes "receipt") none)
    (record { statement = Kind 0 4; place = 0 } ∷ [])
    (tt, refl, tt) (tt, refl, tt) refl (omega arith) refl ((refl, refl), refl, tt) (omega arith) refl

by_dd_says : Says (codes "by_dd") (Kind 0 3 ∷ [])
unfolding LawfulTree all_by all_name written tell index listed depths_from
by_dd_says =
    says (codes "by_dd") (described None (codes "by_dd") none)
    (record { statement = Kind 0 3; place = 0 } ∷ [])
    (tt, refl, tt) (tt, refl, tt) refl (omega arith) refl ((refl, refl), refl, tt) (omega arith) refl

returned_says : Says (codes "returned") (Kind 0 6 ∷ [])
unfolding LawfulTree all_by all_name written tell index listed depths_from
returned_says =
    says (codes "returned") (described None (codes "returned") none)
    (record { statement = Kind 0 6; place = 0 } ∷ [])
    (tt, refl, tt) (tt, refl, tt) refl (omega arith) refl ((refl, refl), refl, tt) (omega arith) refl

paid_and_back_says : Says (codes "any(paid=>by_dd,back=>returned)") (Kind 0 0 ∷ Feature 0 0 1 ∷ Kind 1 3 ∷ Feature 0 1 2 ∷ Kind 2 6 ∷ [])
unfolding LawfulTree all_by all_name written tell index listed depths_from
paid_and_back_says =
    says (codes "any(paid=>by_dd,back=>returned)") (described None (codes "any") (item (codes "paid") (described None (codes "by_dd") none) (item (codes "back") (described None (codes "returned") none) none)))
    (record { statement = Kind 0 0; place = 0 } ∷ record { statement = Feature 0 0 1; place = 4 } ∷ record { statement = Kind 1 3; place = 10 } ∷ record { statement = Feature 0 1 2; place = 16 } ∷ record { statement = Kind 2 6; place = 22 } ∷ [])
    (tt, refl, (refl, refl, refl, (tt, refl, tt), (refl, refl, (tt, refl, tt), tt))) (tt, refl, (refl, refl, refl, (tt, refl, tt), (refl, refl, (tt, refl, tt), tt))) refl (omega arith) refl ((refl, refl), refl, ((refl, refl, refl), refl, ((refl, refl), refl, ((refl, refl, refl), refl, ((refl, refl), refl, tt))))) (omega arith) refl

same_says : Says (codes "any(paid=>Y,back=>Y)") (Kind 0 0 ∷ Feature 0 0 1 ∷ Feature 0 1 1 ∷ [])
unfolding LawfulTree all_by all_name written tell index listed depths_from
same_says =
    says (codes "any(paid=>Y,back=>Y)") (described None (codes "any") (item (codes "paid") (bare (codes "Y")) (item (codes "back") (bare (codes "Y")) none)))
    (record { statement = Kind 0 0; place = 0 } ∷ record { statement = Feature 0 0 1; place = 4 } ∷ record { statement = Feature 0 1 1; place = 12 } ∷ [])
    (tt, refl, (refl, refl, refl, (refl, refl), (refl, refl, (refl, refl), tt))) (tt, refl, (refl, refl, refl, (refl, refl), (refl, refl, (refl, refl), tt))) refl (omega arith) refl ((refl, refl), refl, ((refl, refl, refl), refl, ((refl, refl, refl), refl, tt))) (omega arith) refl

paid_fee_says : Says (codes "any(paid=>fee)") (Kind 0 0 ∷ Feature 0 0 1 ∷ Kind 1 9 ∷ [])
unfolding LawfulTree all_by all_name written tell index listed depths_from
paid_fee_says =
    says (codes "any(paid=>fee)") (described None (codes "any") (item (codes "paid") (described None (codes "fee") none) none))
    (record { statement = Kind 0 0; place = 0 } ∷ record { statement = Feature 0 0 1; place = 4 } ∷ record { statement = Kind 1 9; place = 10 } ∷ [])
    (tt, refl, (refl, refl, refl, (tt, refl, tt), tt)) (tt, refl, (refl, refl, refl, (tt, refl, tt), tt)) refl (omega arith) refl ((refl, refl), refl, ((refl, refl, refl), refl, ((refl, refl), refl, tt))) (omega arith) refl

two_says : Says (codes "any(a=>any(f=>credit),b=>any(f=>debit))") (Kind 0 0 ∷ Feature 0 4 1 ∷ Kind 1 0 ∷ Feature 1 6 2 ∷ Kind 2 1 ∷ Feature 0 5 3 ∷ Kind 3 0 ∷ Feature 3 6 4 ∷ Kind 4 2 ∷ [])
unfolding LawfulTree all_by all_name written tell index listed depths_from
two_says =
    says (codes "any(a=>any(f=>credit),b=>any(f=>debit))") (described None (codes "any") (item (codes "a") (described None (codes "any") (item (codes "f") (described None (codes "credit") none) none)) (item (codes "b") (described None (codes "any") (item (codes "f") (described None (codes "debit") none) none)) none)))
    (record { statement = Kind 0 0; place = 0 } ∷ record { statement = Feature 0 4 1; place = 4 } ∷ record { statement = Kind 1 0; place = 7 } ∷ record { statement = Feature 1 6 2; place = 11 } ∷ record { statement = Kind 2 1; place = 14 } ∷ record { statement = Feature 0 5 3; place = 22 } ∷ record { statement = Kind 3 0; place = 25 } ∷ record { statement = Feature 3 6 4; place = 29 } ∷ record { statement = Kind 4 2; place = 32 } ∷ [])
    (tt, refl, (refl, refl, refl, (tt, refl, (refl, refl, refl, (tt, refl, tt), tt)), (refl, refl, (tt, refl, (refl, refl, refl, (tt, refl, tt), tt)), tt))) (tt, refl, (refl, refl, refl, (tt, refl, (refl, refl, refl, (tt, refl, tt), tt)), (refl, refl, (tt, refl, (refl, refl, refl, (tt, refl, tt), tt)), tt))) refl (omega arith) refl ((refl, refl), refl, ((refl, refl, refl), refl, ((refl, refl), refl, ((refl, refl, refl), refl, ((refl, refl), refl, ((refl, refl, refl), refl, ((refl, refl), refl, ((refl, refl, refl), refl, ((refl, refl), refl, tt))))))))) (omega arith) refl

both_says : Says (codes "any(a=>Y,b=>Y)") (Kind 0 0 ∷ Feature 0 4 1 ∷ Feature 0 5 1 ∷ [])
unfolding LawfulTree all_by all_name written tell index listed depths_from
both_says =
    says (codes "any(a=>Y,b=>Y)") (described None (codes "any") (item (codes "a") (bare (codes "Y")) (item (codes "b") (bare (codes "Y")) none)))
    (record { statement = Kind 0 0; place = 0 } ∷ record { statement = Feature 0 4 1; place = 4 } ∷ record { statement = Feature 0 5 1; place = 9 } ∷ [])
    (tt, refl, (refl, refl, refl, (refl, refl), (refl, refl, (refl, refl), tt))) (tt, refl, (refl, refl, refl, (refl, refl), (refl, refl, (refl, refl), tt))) refl (omega arith) refl ((refl, refl), refl, ((refl, refl, refl), refl, ((refl, refl, refl), refl, tt))) (omega arith) refl

anything_says : Says (codes "any") (Kind 0 0 ∷ [])
unfolding LawfulTree all_by all_name written tell index listed depths_from
anything_says =
    says (codes "any") (described None (codes "any") none)
    (record { statement = Kind 0 0; place = 0 } ∷ [])
    (tt, refl, tt) (tt, refl, tt) refl (omega arith) refl ((refl, refl), refl, tt) (omega arith) refl

four_says : Says (codes "any(a=>any,b=>any,f=>any)") (Kind 0 0 ∷ Feature 0 4 1 ∷ Kind 1 0 ∷ Feature 0 5 2 ∷ Kind 2 0 ∷ Feature 0 6 3 ∷ Kind 3 0 ∷ [])
unfolding LawfulTree all_by all_name written tell index listed depths_from
four_says =
    says (codes "any(a=>any,b=>any,f=>any)") (described None (codes "any") (item (codes "a") (described None (codes "any") none) (item (codes "b") (described None (codes "any") none) (item (codes "f") (described None (codes "any") none) none))))
    (record { statement = Kind 0 0; place = 0 } ∷ record { statement = Feature 0 4 1; place = 4 } ∷ record { statement = Kind 1 0; place = 7 } ∷ record { statement = Feature 0 5 2; place = 11 } ∷ record { statement = Kind 2 0; place = 14 } ∷ record { statement = Feature 0 6 3; place = 18 } ∷ record { statement = Kind 3 0; place = 21 } ∷ [])
    (tt, refl, (refl, refl, refl, (tt, refl, tt), (refl, refl, (tt, refl, tt), (refl, refl, (tt, refl, tt), tt)))) (tt, refl, (refl, refl, refl, (tt, refl, tt), (refl, refl, (tt, refl, tt), (refl, refl, (tt, refl, tt), tt)))) refl (omega arith) refl ((refl, refl), refl, ((refl, refl, refl), refl, ((refl, refl), refl, ((refl, refl, refl), refl, ((refl, refl), refl, ((refl, refl, refl), refl, ((refl, refl), refl, tt))))))) (omega arith) refl

five_says : Says (codes "any(a=>any,b=>any,f=>any,paid=>any)") (Kind 0 0 ∷ Feature 0 4 1 ∷ Kind 1 0 ∷ Feature 0 5 2 ∷ Kind 2 0 ∷ Feature 0 6 3 ∷ Kind 3 0 ∷ Feature 0 0 4 ∷ Kind 4 0 ∷ [])
unfolding LawfulTree all_by all_name written tell index listed depths_from
five_says =
    says (codes "any(a=>any,b=>any,f=>any,paid=>any)") (described None (codes "any") (item (codes "a") (described None (codes "any") none) (item (codes "b") (described None (codes "any") none) (item (codes "f") (described None (codes "any") none) (item (codes "paid") (described None (codes "any") none) none)))))
    (record { statement = Kind 0 0; place = 0 } ∷ record { statement = Feature 0 4 1; place = 4 } ∷ record { statement = Kind 1 0; place = 7 } ∷ record { statement = Feature 0 5 2; place = 11 } ∷ record { statement = Kind 2 0; place = 14 } ∷ record { statement = Feature 0 6 3; place = 18 } ∷ record { statement = Kind 3 0; place = 21 } ∷ record { statement = Feature 0 0 4; place = 25 } ∷ record { statement = Kind 4 0; place = 31 } ∷ [])
    (tt, refl, (refl, refl, refl, (tt, refl, tt), (refl, refl, (tt, refl, tt), (refl, refl, (tt, refl, tt), (refl, refl, (tt, refl, tt), tt))))) (tt, refl, (refl, refl, refl, (tt, refl, tt), (refl, refl, (tt, refl, tt), (refl, refl, (tt, refl, tt), (refl, refl, (tt, refl, tt), tt))))) refl (omega arith) refl ((refl, refl), refl, ((refl, refl, refl), refl, ((refl, refl), refl, ((refl, refl, refl), refl, ((refl, refl), refl, ((refl, refl, refl), refl, ((refl, refl), refl, ((refl, refl, refl), refl, ((refl, refl), refl, tt))))))))) (omega arith) refl

pub all_say : AllSay
all_say =
    record {
      returned_dd_says = returned_dd_says;
      receipt_says = receipt_says;
      by_dd_says = by_dd_says;
      returned_says = returned_says;
      paid_and_back_says = paid_and_back_says;
      same_says = same_says;
      paid_fee_says = paid_fee_says;
      two_says = two_says;
      both_says = both_says;
      anything_says = anything_says;
      four_says = four_says;
      five_says = five_says;
    }
