use Rattle.answering.proofs.Input.{first_read}
use Rattle.answering.proofs.read_input.Goals as goal

pub returns : goal.returns
returns g c =
    first_read g.R.Read.remaining c.take-first.result c.args.input c.in_ok-file.file.items c.read_to_end.new.buf.items c.take-first.ensures.limit c.take-first.ensures.inner
    c.in_ok-file.ensures.items c.in_ok-read_to_end.ensures.bytes
