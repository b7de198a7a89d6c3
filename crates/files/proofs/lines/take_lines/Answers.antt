use Rattle.std.proofs.Common.{arith, Ok, Err, subst}
use Rattle.files.specs.Lines.{Lines}
use Rattle.files.specs.Model.{LineRead}
use Rattle.files.proofs.Lining.{more, stopped, done}
use Rattle.files.proofs.lines.take_lines.Goals as goal

pub loop-turn-init : goal.loop-turn-init
loop-turn-init g c = (
  c.requires,
  λ r h. subst (λ n. Lines g.S.Section.takes c.args.file.now n c.args.place c.args.section.now r) (omega arith) h,
)

pub take_at-requires : goal.take_at-requires
take_at-requires g c = c.loop-turn.invariant.0

pub loop-turn-preserved : goal.loop-turn-preserved
loop-turn-preserved g c =
    let read = subst (LineRead g.S.Section.takes c.args.file.now c.loop-turn.at c.loop-turn.section c.take_at.new.section) c.in-Ok.is c.take_at.ensures.answer in (
      c.in-Ok.ensures.within,
      more g.S.Section.takes c.args.file.now c.args.count c.loop-turn.turn c.loop-turn.at (c.in-Ok.field-0-0, c.in-Ok.next) c.loop-turn.section c.take_at.new.section
          (Lines g.S.Section.takes c.args.file.now c.args.count c.args.place c.args.section.now) c.loop-turn-test.true read c.loop-turn.invariant.1,
    )

pub returns-in-Err-clause-answer : goal.returns-in-Err-clause-answer
returns-in-Err-clause-answer g c =
    let read = subst (LineRead g.S.Section.takes c.args.file.now c.loop-turn.at c.loop-turn.section c.take_at.new.section) c.in-Err.is c.take_at.ensures.answer in
    c.loop-turn.invariant.1 (Err c.in-Err.refusal)
    (stopped g.S.Section.takes c.args.file.now _ c.loop-turn.at c.loop-turn.section c.take_at.new.section c.in-Err.refusal (omega (arith, c.loop-turn-test.true)) read)

pub returns-clause-answer : goal.returns-clause-answer
returns-clause-answer g c =
    c.loop-turn.invariant.1 (Ok (c.loop-turn.section, c.loop-turn.at))
    (done g.S.Section.takes c.args.file.now _ c.loop-turn.at c.loop-turn.section (omega (arith, c.loop-turn-test.false)))

pub returns-clause-within : goal.returns-clause-within
returns-clause-within g c = c.loop-turn.invariant.0
