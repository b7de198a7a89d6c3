use Rattle.std.proofs.Common.{[], ◌∷◌, ◌++◌, length, ap, ◌∙◌, arith}
use Rattle.terms.proofs.Terming.{lawful-none, one_depth}
use Rattle.terms.proofs.term.Term.new.Goals as goal

pub invariant_of-result : goal.invariant_of-result
invariant_of-result g c =
    let rows = c.in_ok-rows.ensures in
    let depths = c.in_ok-depths.ensures in
    let pushed = c.put_root.ensures in
    let deep_is = pushed.items ∙ ap (λ ds. ds ++ 0 ∷ []) depths.items in
    let deep = one_depth 0 _ rows.items _ deep_is in
    record {
      lawful = lawful-none 0 _ rows.items;
      deep = deep;
      few = omega (arith, ap length deep_is);
      short = omega (arith, ap length rows.items);
      within = omega arith;
      held = omega arith;
      spare = omega (arith, c.in-Some.ensures);
    }
