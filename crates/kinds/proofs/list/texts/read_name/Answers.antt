use Rattle.std.proofs.Common.{take}
use Rattle.orders.proofs.Singles.{none_back, some_back, some_taken}
use Rattle.declarations.proofs.Named.{single, reads_name, reads_none}
use Rattle.kinds.specs.Lists.{listing, list_texts}
use Rattle.kinds.proofs.list.texts.read_name.Goals as goal

pub returns-in_err-kind : goal.returns-in_err-kind
returns-in_err-kind c =
    let list = c.args.list.now in
    let bytes = c.args.bytes.now in
    let end = c.stop-end.result in
    let s = c.stop-end.ensures in
    rw c.from_residual.ensures
    (record { read_back = none_back (list_texts list) (single (listing list) list.table.sound) bytes end s (reads_none (listing list) list.table.sound (take end bytes) c.in_err-kind.ensures); taken = tt })

pub returns : goal.returns
returns c =
    let list = c.args.list.now in
    let bytes = c.args.bytes.now in
    let end = c.stop-end.result in
    let kind = c.in_ok-kind.kind in
    let s = c.stop-end.ensures in
    let f = c.in_ok-kind.ensures in
    let r = reads_name (listing list) list.table.sound kind (take end bytes) f.0 f.1 in
    record {
      read_back = some_back (list_texts list) (single (listing list) list.table.sound) bytes end s kind r;
      taken = some_taken (list_texts list) (single (listing list) list.table.sound) bytes end s kind r;
    }
