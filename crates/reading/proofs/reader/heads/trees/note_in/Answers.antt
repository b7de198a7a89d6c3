use Rattle.std.proofs.Common.{sym}
use Rattle.std.proofs.lemmas.Bool.{ltb-false}
use Rattle.std.proofs.lemmas.Result.{err_from_is_err_and}
use Rattle.features.specs.Model.{feature_names}
use Rattle.reading.proofs.Rooting.{root_fails, root-wrong, root-right}
use Rattle.reading.proofs.reader.heads.trees.note_in.Goals as goal

pub returns-in_err-root : goal.returns-in_err-root
returns-in_err-root c =
    let p = err_from_is_err_and c.from_residual.result c.from_residual.ensures.1 in
    rw (p.1, p.2) (root_fails (feature_names c.args.features.now) c.args.line.now (ltb-false _ _ (sym c.if-is_long.ensures)) _ c.in_err-root.ensures)

pub returns-in-Some : goal.returns-in-Some
returns-in-Some c =
    root-wrong (feature_names c.args.features.now) c.args.line.now (ltb-false _ _ (sym c.if-is_long.ensures)) c.clear.new.self c.root.new.notes
    (c.clear.ensures c.args.line.now) c.in_ok-root.ensures c.in-Some.place c.in-Some.is

pub returns-in-None : goal.returns-in-None
returns-in-None c =
    root-right (feature_names c.args.features.now) c.args.line.now (ltb-false _ _ (sym c.if-is_long.ensures)) c.clear.new.self c.root.new.notes
    (c.clear.ensures c.args.line.now) c.in_ok-root.ensures c.in-None.is
