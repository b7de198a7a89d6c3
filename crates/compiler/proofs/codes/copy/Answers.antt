use Rattle.std.proofs.Common.{◌≡◌, ◌≤◌, ◌+◌, ◌++◌, drop, vec_items, vec_len, vec_capacity, ap, ◌∙◌, arith}
use Rattle.grammar.specs.Lawful.{statements}
use Rattle.instructions.specs.Codes.{kinds}
use Rattle.compiler.proofs.Going.{statements_more, kinds_more_kind, kinds_more_feature, kinds_done}
use Rattle.compiler.proofs.codes.copy.Goals as goal
use Rattle.compiler.proofs.codes.copy.Goals.{in-Kind, in-Feature}

pub loop-one-preserved : goal.loop-one-preserved
loop-one-preserved g c =
    let said = c.args.said.now in
    let i = c.loop-one.one-index in
    let u = c.one-item.result in
    let was = c.loop-one.invariant in
    let pushed = c.push_reserved-in-loop-one.ensures in
    let told : vec_items c.match-one.kinds ++ kinds (statements (drop (i + 1) said)) ≡ kinds (statements said) =
    elim c.match-one.branch [
      | in-Kind w ↦
          ap (λ v. vec_items v ++ kinds (statements (drop (i + 1) said))) w.kinds-is
          ∙ ap (λ ks. ks ++ kinds (statements (drop (i + 1) said))) w.push_reserved.ensures.items
          ∙ kinds_more_kind said i u c.loop-one-test.true c.one-item.is _ _ _ w.in-Kind.is was.kinds_so_far
      | in-Feature w ↦
          ap (λ v. vec_items v ++ kinds (statements (drop (i + 1) said))) w.kinds-is
          ∙ kinds_more_feature said i u c.loop-one-test.true c.one-item.is _ _ _ _ w.in-Feature.is was.kinds_so_far
    ] in
    let few : vec_len c.match-one.kinds ≤ i + 1 =
    elim c.match-one.branch [
      | in-Kind w ↦ omega (arith, ap vec_len w.kinds-is, w.push_reserved.ensures.len)
      | in-Feature w ↦ omega (arith, ap vec_len w.kinds-is)
    ] in
    let held : vec_capacity c.match-one.kinds ≡ vec_capacity c.clear-2.new.self =
    elim c.match-one.branch [ in-Kind w ↦ cc | in-Feature w ↦ cc ] in
    record {
      statements_so_far =
          ap (λ ss. ss ++ statements (drop (i + 1) said)) pushed.items
          ∙ statements_more said i u c.loop-one-test.true c.one-item.is _ was.statements_so_far;
      kinds_so_far = told;
      many = omega arith;
      few = few;
      statements_capacity = pushed.capacity ∙ was.statements_capacity;
      kinds_capacity = held;
    }

pub returns-clause-kinds : goal.returns-clause-kinds
returns-clause-kinds g c = kinds_done _ c.loop-one.one-index _ c.loop-one-test.false c.loop-one.invariant.kinds_so_far
