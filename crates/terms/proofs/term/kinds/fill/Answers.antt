use Rattle.std.proofs.Common.{◌≡◌, ◌+◌, [], ◌∷◌, ◌++◌, map, length, take, vec_items, vec_capacity, sym, refl, ap, ◌∙◌, subst, arith}
use Rattle.std.proofs.lemmas.List.{length-map, length_push}
use Rattle.grammar.specs.Lawful.{depths, statements}
use Rattle.grammar.proofs.Depths.{depths_few}
use Rattle.grammar.specs.Only.{OnlyReads}
use Rattle.reading.specs.Notes.{said_in}
use Rattle.terms.proofs.Terming.{one_depth}
use Rattle.terms.proofs.WithKinds.{read_none, read_more, no_wrong, some_statement, that_statement}
use Rattle.terms.proofs.term.kinds.fill.Goals as goal

pub loop-said-init : goal.loop-said-init
loop-said-init g c = (
  read_none (g.O.WrittenOrder.texts c.args.order.now) _ c.clear.ensures.items,
  one_depth 0 _ c.clear.ensures.items _ (c.put_root.ensures.items ∙ ap (λ ds. ds ++ 0 ∷ []) c.clear-2.ensures.items),
  c.clear.ensures.len,
  refl,
  refl,
)

pub unwrap-statement-requires : goal.unwrap-statement-requires
unwrap-statement-requires g c =
    let m = g.O.WrittenOrder.texts c.args.order.now in
    some_statement m _ _ c.with_kind.ensures
    (no_wrong m c.args.line.now c.args.noted.now _ c.loop-said.said-index c.loop-said-test.true (_, c.loop-said.invariant.0) c.requires.kinds)

pub push-requires : goal.push-requires
push-requires g c =
    let r = c.loop-said.rows in
    let d = c.loop-said.depths in
    let (_, deep, at, rows, caps) = c.loop-said.invariant in
    let few = depths_few (statements (vec_items r)) in
    let many : length (statements (vec_items r)) ≡ length (vec_items r) = length-map (vec_items r) (λ s. s.statement) in
    let long : length (vec_items d) ≡ length (depths (statements (vec_items r))) = ap length deep in
    let rows-cap = c.clear.ensures.capacity in
    let depths-cap : vec_capacity d ≡ vec_capacity c.args.depths.now = caps ∙ c.put_root.ensures.capacity ∙ c.clear-2.ensures.capacity in
    record {
      room = (omega (arith, c.requires.room.0), omega (arith, c.requires.room.1, d.ok.0, r.ok.0));
      deep = deep;
    }

pub loop-said-preserved : goal.loop-said-preserved
loop-said-preserved g c =
    let m = g.O.WrittenOrder.texts c.args.order.now in
    let (read, _, at, rows, caps) = c.loop-said.invariant in
    let o = that_statement m _ _ _ c.with_kind.ensures c.unwrap-statement.ensures in
    let more = read_more m c.args.line.now c.args.noted.now _ c.loop-said.said-index c.loop-said-test.true (vec_items c.loop-said.rows) c.unwrap-statement.result read o in
    let pushed = c.push.ensures in
    let long = ap length pushed.items ∙ length_push (vec_items c.loop-said.rows) _ in (
      subst (OnlyReads m (map (said_in c.args.line.now) (take (c.loop-said.said-index + 1) c.args.noted.now))) (sym pushed.items) more,
      pushed.deep,
      omega (arith, c.push.new.rows.ok.0, c.loop-said.rows.ok.0),
      pushed.capacity.0 ∙ rows,
      pushed.capacity.1 ∙ caps,
    )
