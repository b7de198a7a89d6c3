use Rattle.kinds.specs.Lists.{drafted}
use Rattle.files.proofs.Booking.{file_read}
use Rattle.files.proofs.lines.reads.read_whole.Goals as goal

pub returns : goal.returns
returns g c =
    let texts : g.row.O.Denot → _ = λ o. g.O.WrittenOrder.texts o in
    record {
      answer = file_read (λ l. texts (g.O.OfList.made l)) c.args.file.now c.in_ok-check_length.ensures (drafted c.in_ok-draft.draft) c.in_ok-draft.features_at
          c.in_ok-draft.ensures.answer g.O.OfList.made c.in_ok-list.list c.in_ok-list.ensures c.read_lists.result c.read_lists.ensures;
    }
