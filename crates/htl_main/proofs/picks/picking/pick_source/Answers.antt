-- `pick_source` reads the source's bytes, and reports their fault, as a run does of one source.
use Rattle.htl_inputs.proofs.OneSource.{accepted_read, decoded_ill, never_write, reported_bytes_of}
use Rattle.htl_main.proofs.PickLaws.{accepted_more, never_case, refused_more}
use Rattle.htl_main.proofs.picks.picking.pick_source.Goals as goal

pub returns-in-Ok-clause-ok : goal.returns-in-Ok-clause-ok
returns-in-Ok-clause-ok g c =
    accepted_more c.args.form (g.R.Source.state c.args.source.now).remaining c.args.picks c.in-Ok.bundle c.accept.result c.requires.bytes
    c.in-Ok.ensures.ok c.accept.ensures.segments c.accept.ensures.end

pub returns-in-Ok-clause-err : goal.returns-in-Ok-clause-err
returns-in-Ok-clause-err g c =
    refused_more c.args.form (g.R.Source.state c.args.source.now).remaining _ _ c.args.place c.args.picks c.in-Ok.bundle c.accept.result c.requires.bytes
    c.in-Ok.ensures.ok c.accept.ensures.refused

pub returns-in-Ok-clause-reading : goal.returns-in-Ok-clause-reading
returns-in-Ok-clause-reading g c =
    accepted_read c.args.place (g.R.Source.state c.args.source.now) (g.R.Source.state c.gather_bundle.new.source) c.in-Ok.bundle
    c.accept.result c.accept.ensures.segment c.in-Ok.ensures.reading

pub returns-in-Err-clause-reading : goal.returns-in-Err-clause-reading
returns-in-Err-clause-reading g c =
    rw (c.from_source.ensures) (decoded_ill c.args.place (g.R.Source.state c.args.source.now) (g.R.Source.state c.gather_bundle.new.source)
    c.in-Err.fault c.in-Err.ensures.reading)

pub returns-in-Err-clause-err : goal.returns-in-Err-clause-err
returns-in-Err-clause-err g c =
    rw (c.from_source.ensures) (reported_bytes_of c.args.form (g.R.Source.state c.args.source.now).remaining _ _ c.args.place c.in-Err.fault
    c.requires.bytes c.in-Err.ensures.err)

pub returns-in-Err-clause-no_write : goal.returns-in-Err-clause-no_write
returns-in-Err-clause-no_write g c = rw (c.from_source.ensures) (never_write c.args.place c.in-Err.fault)

pub returns-in-Err-clause-no_case : goal.returns-in-Err-clause-no_case
returns-in-Err-clause-no_case g c = rw (c.from_source.ensures) (never_case c.args.place c.in-Err.fault)

pub returns-in-Ok-clause-readers : goal.returns-in-Ok-clause-readers
returns-in-Ok-clause-readers g c = c.in-Ok.ensures.reading.readers

pub returns-in-Err-clause-readers : goal.returns-in-Err-clause-readers
returns-in-Err-clause-readers g c = c.in-Err.ensures.reading.readers
