use Rattle.std.proofs.Common.{◌≡◌, ◌≤◌, true, length, sym, refl, subst, arith}
use Rattle.std.proofs.lemmas.List.{length-map}
use Rattle.declarations.specs.Rows.{closed}
use Rattle.kinds.specs.Lists.{drafted}
use Rattle.kinds.specs.Stored.{declaration}
use Rattle.kinds.proofs.Pairing.{first_pair, all_meet, none_apart}
use Rattle.kinds.proofs.draft.closes.close_draft.Goals as goal

pub returns-in-Some : goal.returns-in-Some
returns-in-Some c =
    let t = c.args.draft.table in
    let few : length (drafted c.args.draft) ≤ 64 = omega (arith, length-map t.kinds.items declaration, t.few) in
    let f = first_pair (drafted c.args.draft) t.sound few (c.in-Some.first, c.in-Some.second) c.in-Some.ensures in
    ((c.in-Some.first, c.in-Some.second, f, refl), refl)

pub invariant_of-list : goal.invariant_of-list
invariant_of-list c =
    let t = c.args.draft.table in
    let few : length (drafted c.args.draft) ≤ 64 = omega (arith, length-map t.kinds.items declaration, t.few) in
    record { closed = subst (λ rows. closed 64 rows ≡ true) (sym t.right) (all_meet (drafted c.args.draft) t.sound few c.in_default.ensures) }

pub returns : goal.returns
returns c =
    let t = c.args.draft.table in
    let few : length (drafted c.args.draft) ≤ 64 = omega (arith, length-map t.kinds.items declaration, t.few) in
    (refl, none_apart (drafted c.args.draft) t.sound few c.in_default.ensures)
