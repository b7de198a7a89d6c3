use Rattle.std.proofs.Common.{◌≡◌, map, set, take, drop, ◌+◌, sym, subst, arith}
use Rattle.kinds.specs.Stored.{with_new}
use Rattle.kinds.proofs.Added.{changed_onward}
use Rattle.kinds.proofs.draft.declares.grow_rows.Goals as goal

pub loop-earlier-preserved : goal.loop-earlier-preserved
loop-earlier-preserved c =
    let old = c.args.kinds.now in
    let now = c.loop-earlier.kinds in
    let i = c.loop-earlier.earlier-index in
    let (done, rest) = c.loop-earlier.invariant in
    subst (λ k. (take (i + 1) (set now i k) ≡ map (with_new c.args.kind.now) (take (i + 1) old)) × (drop (i + 1) (set now i k) ≡ drop (i + 1) old)) (sym c.with_new.ensures)
    (changed_onward (with_new c.args.kind.now) now old i c.earlier-item.result (omega arith) c.loop-earlier.auto.kinds done rest)
