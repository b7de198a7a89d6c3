use Rattle.std.proofs.Common.{◌+◌, ◌∷◌, drop, vec_capacity, vec_items, refl, ◌∙◌, arith}
use Rattle.compiler.proofs.Onward.{met_few}
use Rattle.compiler.proofs.Entering.{Entering, entering_first, entering_now, entering_fits, entering_next, entering_last}
use Rattle.compiler.proofs.codes.entry.compiling.write.Given as given
use Rattle.compiler.proofs.codes.entry.compiling.write.Goals as goal
use Rattle.compiler.proofs.codes.entry.compiling.write.Goals.{After-statement-item}

pub loop-statement-init : goal.loop-statement-init
loop-statement-init g c = (entering_first _ _ _ _ refl refl c.clear.ensures.items c.push_root.ensures.items, refl)

now : (g : given.Over) (c : After-statement-item g) →
    Entering c.args.statements.now (c.statement-item.result ∷ drop (c.loop-statement.statement-index + 1) c.args.statements.now) c.loop-statement.statement-index c.loop-statement.pass (vec_items c.loop-statement.code)
now g c = entering_now _ _ _ _ _ c.loop-statement-test.true c.statement-item.is c.loop-statement.invariant.0

pub tell-requires : goal.tell-requires
tell-requires g c =
    let code = c.loop-statement.code in
    let h = now g (goal.at.tell-requires g c).After-statement-item in
    let fits = entering_fits _ _ _ _ _ _ h (vec_capacity code) (omega (arith, c.requires.fits, c.loop-statement.invariant.1, c.push_root.ensures.capacity, c.clear.ensures.capacity)) in
    (h.at, h.here.counts, omega (arith, fits, code.ok.0))

pub after-pass-requires : goal.after-pass-requires
after-pass-requires g c =
    let h = now g (goal.at.after-pass-requires g c).After-statement-item in (
      omega (arith, met_few _ _ _ _ _ h.here, c.requires.few.1),
      omega (arith, h.here.counts.1, h.here.kinds_few, c.loop-statement-test.true, c.requires.few.0),
    )

pub loop-statement-preserved : goal.loop-statement-preserved
loop-statement-preserved g c =
    let was = now g (goal.at.loop-statement-preserved g c).After-statement-item in
    (entering_next _ _ _ _ _ _ was _ _ (c.after-pass.ensures was.at was.here.counts) (c.tell.ensures.items was.at was.here.counts), c.tell.ensures.capacity ∙ c.loop-statement.invariant.1)

pub returns-clause-code : goal.returns-clause-code
returns-clause-code g c = entering_last _ c.loop-statement.statement-index _ _ c.loop-statement-test.false c.loop-statement.invariant.0
