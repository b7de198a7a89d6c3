use Rattle.std.proofs.Common.{◌≡◌, ℕ, ◌+◌, ◌∷◌, ◌≤◌, length, drop, vec_items, vec_capacity, sym, refl, ap, ◌∙◌, subst, arith}
use Rattle.instructions.specs.Codes.{write_code}
use Rattle.compiler.specs.Passing.{Known}
use Rattle.compiler.proofs.Onward.{met_few}
use Rattle.compiler.proofs.Matching.{Matching, matching_first, matching_now, matching_known, matching_fits, matching_next, reads_last, writes_last, writes_last_fit}
use Rattle.compiler.proofs.codes.rule.compiling.write.Given as given
use Rattle.compiler.proofs.codes.rule.compiling.write.Goals as goal
use Rattle.compiler.proofs.codes.rule.compiling.write.Goals.{After-statement-item, After-loop-statement}

pub loop-statement-init : goal.loop-statement-init
loop-statement-init g c =
    let (n, lawful) = c.requires.lawful in
    record {
      matching = (n, matching_first n _ _ _ _ lawful refl refl c.clear.ensures.items c.clear-2.ensures.items);
      reads_capacity = refl;
      writes_capacity = refl;
    }

now : (g : given.Over) (c : After-statement-item g) → (n : ℕ)
    × Matching n c.args.statements.now (c.statement-item.result ∷ drop (c.loop-statement.statement-index + 1) c.args.statements.now) c.loop-statement.statement-index c.loop-statement.pass c.loop-statement.depth (vec_items c.loop-statement.reads) (vec_items c.loop-statement.writes)
now g c =
    let (n, h) = c.loop-statement.invariant.matching in (n, matching_now n _ _ _ _ _ _ _ c.loop-statement-test.true c.statement-item.is h)

known : (g : given.Over) (c : After-statement-item g) → Known c.args.depths.now (now g c).1.at c.statement-item.result
known g c = subst (λ ds. Known ds (now g c).1.at c.statement-item.result) (sym c.requires.depths) (matching_known _ _ _ _ _ _ _ _ _ (now g c).1)

pub step-depth-requires : goal.step-depth-requires
step-depth-requires g c =
    let at = (goal.at.step-depth-requires g c).After-statement-item in
    let h = (now g at).1 in
    let was = c.loop-statement.invariant in
    let reads = c.loop-statement.reads in
    let writes = c.loop-statement.writes in
    let room = matching_fits _ _ _ _ _ _ _ _ _ h (vec_capacity reads) (vec_capacity writes)
    (omega (arith, c.requires.fits.0, was.reads_capacity, c.clear.ensures.capacity))
    (omega (arith, c.requires.fits.1, was.writes_capacity, c.clear-2.ensures.capacity)) in
    (h.at, h.goes, known g at, omega (arith, room.0, reads.ok.0), omega (arith, room.1, writes.ok.0))

pub after-pass-requires : goal.after-pass-requires
after-pass-requires g c =
    let h = (now g (goal.at.after-pass-requires g c).After-statement-item).1 in (
      omega (arith, met_few _ _ _ _ _ h.here, c.requires.few.1, ap length c.requires.depths),
      omega (arith, h.here.counts.1, h.here.kinds_few, c.loop-statement-test.true, c.requires.few.0),
    )

pub loop-statement-preserved : goal.loop-statement-preserved
loop-statement-preserved g c =
    let at = (goal.at.loop-statement-preserved g c).After-statement-item in
    let (n, h) = now g at in
    let k = known g at in
    let step = c.step-depth.ensures in
    let was = c.loop-statement.invariant in
    record {
      matching =
          (n, matching_next n _ _ _ _ _ _ _ _ h _ _ _ _ (c.after-pass.ensures h.at h.goes.counts) (step.opened h.at h.goes k) (step.reads h.at h.goes k) (step.writes h.at h.goes k));
      reads_capacity = step.capacity.0 ∙ was.reads_capacity;
      writes_capacity = step.capacity.1 ∙ was.writes_capacity;
    }

pub close_all-requires : goal.close_all-requires
close_all-requires g c =
    let (n, h) = c.loop-statement.invariant.matching in
    let writes = c.loop-statement.writes in
    let label : c.len.result ≡ length (vec_items c.loop-statement.reads) = omega (arith, c.len.ensures, c.loop-statement.reads.ok.0) in
    let held : length (write_code c.args.statements.now) ≤ vec_capacity writes = omega (arith, c.requires.fits.1, c.loop-statement.invariant.writes_capacity, c.clear-2.ensures.capacity) in
    let fits = writes_last_fit n _ c.loop-statement.statement-index _ _ _ _ c.loop-statement-test.false h c.len.result label (vec_capacity writes) held in
    omega (arith, fits, writes.ok.0)

pub returns-clause-reads : goal.returns-clause-reads
returns-clause-reads g c =
    let (n, h) = c.loop-statement.invariant.matching in reads_last n _ c.loop-statement.statement-index _ _ _ _ c.loop-statement-test.false h

pub returns-clause-writes : goal.returns-clause-writes
returns-clause-writes g c =
    let (n, h) = c.loop-statement.invariant.matching in
    let label : c.len.result ≡ length (vec_items c.loop-statement.reads) = omega (arith, c.len.ensures, c.loop-statement.reads.ok.0) in
    writes_last n _ c.loop-statement.statement-index _ _ _ _ c.loop-statement-test.false h c.len.result label _ c.close_all.ensures.items
