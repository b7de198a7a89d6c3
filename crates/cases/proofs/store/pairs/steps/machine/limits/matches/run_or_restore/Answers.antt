use Rattle.std.proofs.Common.{◌*◌}
use Rattle.cases.proofs.Copying.{copied_beyond, put_back}
use Rattle.cases.proofs.store.pairs.steps.machine.limits.matches.run_or_restore.Goals as goal

pub returns-then-is_err-clause-back : goal.returns-then-is_err-clause-back
returns-then-is_err-clause-back g c clash =
    let m = g.O.Order.meaning c.args.order.now in
    let n = c.to_copy-count.result in
    let past = copied_beyond c.args.most c.args.features c.args.cells.now c.args.slots.now c.run-outcome.new.cells c.run-outcome.new.slots c.requires.sizes c.run-outcome.auto.cells c.run-outcome.auto.slots m.widest
    (λ within. c.run-outcome.ensures.beyond c.args.most clash (record { room = c.requires.most; codes = c.requires.codes; state = record { heap = within; places = c.requires.places } })) n c.to_copy-count.ensures.count in (
      put_back n c.args.cells.now _ _ _ _ c.to_copy-count.ensures.within.0 c.copy.ensures.cells c.copy-then-is_err.ensures.cells past.0,
      put_back (n * c.args.features) c.args.slots.now _ _ _ _ c.to_copy-count.ensures.within.1 c.copy.ensures.slots c.copy-then-is_err.ensures.slots past.1,
    )
