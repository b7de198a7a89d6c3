use Rattle.std.proofs.Common.{arith}
use Rattle.std.proofs.lemmas.Result.{err_from_is_err_and}
use Rattle.features.specs.Model.{feature_names}
use Rattle.grammar.specs.Trees.{limits}
use Rattle.grammar.proofs.Scanning.{runs_start}
use Rattle.reading.proofs.Rooting.{noted_nothing, behind, whole_line}
use Rattle.reading.proofs.reader.heads.trees.root.Goals as goal

pub term-requires : goal.term-requires
term-requires c =
    let none = noted_nothing c.args.reader.now.line.now c.args.notes.now c.requires in
    (omega arith, (runs_start limits c.args.reader.now.line.now, ((omega (arith, none.0), omega (arith, none.1)), omega arith)))

pub returns-in_err-end : goal.returns-in_err-end
returns-in_err-end c =
    let p = err_from_is_err_and c.from_residual.result c.from_residual.ensures.1 in
    rw (p.1, p.2) c.in_err-end.ensures

pub returns-then-end-reader : goal.returns-then-end-reader
returns-then-end-reader c =
    behind (feature_names c.args.reader.now.features.now) c.args.reader.now.line.now c.args.notes.now c.term.new.notes c.in_ok-end.end c.in_ok-end.ensures c.if-end-reader.true

pub returns : goal.returns
returns c =
    whole_line (feature_names c.args.reader.now.features.now) c.args.reader.now.line.now c.args.notes.now c.term.new.notes c.in_ok-end.end c.in_ok-end.ensures c.if-end-reader.false
