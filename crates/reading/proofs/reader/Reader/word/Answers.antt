use Rattle.std.proofs.Common.{refl, ap, ◌∙◌}
use Rattle.reading.specs.Reading.{leading}
use Rattle.reading.proofs.Spanning.{longest_word, rest_is}
use Rattle.reading.proofs.reader.Reader.word.Goals as goal

pub returns : goal.returns
returns c =
    let line = c.args.self.now.line.now in
    let rest = rest_is line c.args.start in
    let n = c.leading.result in
    let w = longest_word line c.args.class c.args.start c.requires n (c.leading.ensures.value ∙ ap (leading c.args.class) rest) in
    (rw rest w, refl)
