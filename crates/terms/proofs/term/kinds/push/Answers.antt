use Rattle.std.proofs.Common.{◌≡◌, [], ◌∷◌, ◌++◌, length, get_or, vec_items, vec_capacity, ap, ◌∙◌, arith}
use Rattle.std.proofs.lemmas.List.{length-map}
use Rattle.grammar.specs.Lawful.{depths, statements}
use Rattle.terms.proofs.Filling.{depth_few, kept_kind, kept_feature, next_feature}
use Rattle.terms.proofs.term.kinds.push.Goals as goal
use Rattle.terms.proofs.term.kinds.push.Goals.{in-Kind, in-Feature+then-value-len, in-Feature+else-value-len}

pub one_deeper-requires : goal.one_deeper-requires
one_deeper-requires g c =
    let r = c.args.rows.now in
    let x = c.in-Feature.variable in
    let e : c.depth_of-depth.result ≡ get_or (depths (statements (vec_items r))) x 0 =
    c.depth_of-depth.ensures ∙ ap (λ ds. get_or ds x 0) (c.deref.ensures.value ∙ c.requires.deep) in
    let few = depth_few (statements (vec_items r)) x in
    let many : length (statements (vec_items r)) ≡ length (vec_items r) = length-map (vec_items r) (λ s. s.statement) in
    omega (arith, c.requires.room.0, r.ok.0)

pub returns : goal.returns
returns g c =
    let r = c.args.rows.now in
    let d = c.args.depths.now in
    let pushed = c.push_reserved-2.ensures in
    let was = c.requires.deep in
    let deep : vec_items c.match-said.depths ≡ depths (statements (vec_items c.push_reserved-2.new.self)) =
    elim c.match-said.branch [
      | in-Kind w ↦
          ap (λ v. vec_items v) w.depths-is
          ∙ kept_kind (vec_items r) _ c.args.said _ _ (vec_items d) w.in-Kind.is pushed.items was
      | in-Feature+then-value-len w ↦
          let here : w.in-Feature.value ≡ length (vec_items d) = omega (arith, w.if-value-len.true, w.len.ensures, d.ok.0) in
          let depth = w.depth_of-depth.ensures ∙ ap (λ ds. get_or ds w.in-Feature.variable 0) w.deref.ensures.value in
          next_feature (vec_items r) _ c.args.said _ _ _ w.depth_of-depth.result (vec_items d) _ w.in-Feature.is pushed.items was here depth
          (ap (λ v. vec_items v) w.depths-is ∙ w.push_reserved.ensures.items ∙ ap (λ n. vec_items d ++ n ∷ []) w.one_deeper.ensures)
      | in-Feature+else-value-len w ↦
          ap (λ v. vec_items v) w.depths-is
          ∙ kept_feature (vec_items r) _ c.args.said _ _ _ (vec_items d) w.in-Feature.is pushed.items was
          (λ e. w.if-value-len.false (omega (arith, w.len.ensures, d.ok.0)))
    ] in
    let cap : vec_capacity c.match-said.depths ≡ vec_capacity d =
    elim c.match-said.branch [ in-Kind w ↦ cc | in-Feature+then-value-len w ↦ cc | in-Feature+else-value-len w ↦ cc ] in
    record { items = pushed.items; deep = deep; capacity = (pushed.capacity, cap) }
