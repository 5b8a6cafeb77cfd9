-- `encode_input` gathers the text of its source whole, and then encodes it.
use Rattle.htl_inputs.proofs.OneSource.{gathered, ungathered}
use Rattle.htl_convert.proofs.encoding.encode_input.Goals as goal

pub returns-in-Ok-clause-reading : goal.returns-in-Ok-clause-reading
returns-in-Ok-clause-reading g c =
    gathered c.args.place (g.R.Source.state c.args.source.now) (g.R.Source.state c.read_whole.new.source) c.encode_text.result
    c.in-Ok.ensures.ended c.in-Ok.ensures.fine c.in-Ok.ensures.bounded c.encode_text.ensures.no_read c.encode_text.ensures.named

pub returns-in-Err-clause-reading : goal.returns-in-Err-clause-reading
returns-in-Err-clause-reading g c =
    rw (c.from_read.ensures) (ungathered c.args.place (g.R.Source.state c.args.source.now) (g.R.Source.state c.read_whole.new.source)
    c.in-Err.fault c.in-Err.ensures.reported c.in-Err.ensures.failed c.in-Err.ensures.bounded)
