use Rattle.std.proofs.Common.{◌≡◌, length, ap, ◌∙◌, arith}
use Rattle.joining.specs.Heap.{new_cells}
use Rattle.cases.proofs.Parts.{renewed_none, renewed_more, renewed_all}
use Rattle.cases.proofs.store.opens.renew_all.Goals as goal

pub loop-index-init : goal.loop-index-init
loop-index-init g c = renewed_none _ c.args.cells.now

pub loop-index-preserved : goal.loop-index-preserved
loop-index-preserved g c = renewed_more _ c.loop-index.cells c.loop-index.index (omega arith) c.loop-index.invariant

pub returns : goal.returns
returns g c =
    let n : c.loop-index.index ≡ length c.args.cells.now = omega arith in
    renewed_all _ c.loop-index.cells c.loop-index.index (omega arith) c.loop-index.invariant
    ∙ ap (new_cells c.widest-kind.result) n
    ∙ ap (λ k. new_cells k (length c.args.cells.now)) c.widest-kind.ensures
