use Rattle.std.proofs.Common.{◌+◌, ◌≤◌, length, refl, ◌∙◌, subst, arith}
use Rattle.std.proofs.lemmas.List.{length-map}
use Rattle.declarations.proofs.Words.{word-ends}
use Rattle.declarations.specs.Lines.{Unknown}
use Rattle.kinds.specs.Model.{kinds_of}
use Rattle.kinds.specs.Stored.{declaration}
use Rattle.kinds.proofs.Gathering.{starts, next_word, gathered, word_is, first-unknown, advances}
use Rattle.kinds.proofs.table.Table.gather.Goals as goal

pub loop-end-init : goal.loop-end-init
loop-end-init c = λ ws a e. starts (kinds_of c.args.self.now) c.args.at ws c.args.line.now a e

pub loop-end-preserved : goal.loop-end-preserved
loop-end-preserved c =
    λ ws a e.
    let s = c.args.self.now in
    let ds = kinds_of s in
    let line = c.args.line.now in
    let p = c.loop-end.invariant ws a e in
    let n = next_word ds c.args.at ws line c.loop-end.end c.loop-end.wider p c.loop-end-test.true in
    let stop = word-ends line (c.loop-end.end + 1) n.word n.others n.named n.rest c.word_end-end.result c.word_end-end.ensures in
    let word = word_is ds c.args.at ws line c.loop-end.end c.loop-end.wider p n c.word_end-end.result stop in
    let few : length ds ≤ 64 = omega (arith, length-map s.kinds.items declaration, s.few) in
    advances ds c.args.at ws line c.loop-end.end c.loop-end.wider p n s.sound few c.word_end-end.result c.in-Some.kind stop
    c.in-Some.ensures.0 (c.in-Some.ensures.1 ∙ word)

pub returns-in-None : goal.returns-in-None
returns-in-None c =
    λ ws a e.
    let ds = kinds_of c.args.self.now in
    let line = c.args.line.now in
    let p = c.loop-end.invariant ws a e in
    let n = next_word ds c.args.at ws line c.loop-end.end c.loop-end.wider p c.loop-end-test.true in
    let stop = word-ends line (c.loop-end.end + 1) n.word n.others n.named n.rest c.word_end-end.result c.word_end-end.ensures in
    let word = word_is ds c.args.at ws line c.loop-end.end c.loop-end.wider p n c.word_end-end.result stop in
    (_, first-unknown ds c.args.at ws line c.loop-end.end c.loop-end.wider p n (subst (Unknown ds) word c.in-None.ensures), refl)

pub returns : goal.returns
returns c = λ ws a e. gathered (kinds_of c.args.self.now) c.args.at ws c.args.line.now c.loop-end.end c.loop-end.wider (c.loop-end.invariant ws a e) c.loop-end-test.false
