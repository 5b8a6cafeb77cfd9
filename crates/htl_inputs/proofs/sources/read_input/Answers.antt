-- `read_input` reads a source, and reports its fault, as a run does of one source.
use Rattle.htl_inputs.specs.Ends.{IsInput}
use Rattle.htl_inputs.proofs.DigitsLaws.{digits_read, digits_reported, ok_known, told_known}
use Rattle.htl_inputs.proofs.EndLaws.{accepted_source, refused_source}
use Rattle.htl_inputs.proofs.OneSource.{accepted_read, decoded_ill, reported_bytes_of}
use Rattle.htl_inputs.proofs.sources.read_input.Goals as goal
use Rattle.htl_reading.proofs.ReadLaws.{asks_none}

pub returns-in-Ok-clause-ok : goal.returns-in-Ok-clause-ok
returns-in-Ok-clause-ok g c =
    let read = rw (c.deref.ensures.value) at c.decode_bytes.ensures.ok in
    ok_known (λ read input. IsInput c.args.form input read.segments.items read.end) c.args.form (g.R.Source.state c.args.source.now).remaining
    c.in-Ok.bytes.items c.decode_bytes.result c.if-form.true c.in-Ok.ensures.ok read

pub returns-in-Ok-clause-err : goal.returns-in-Ok-clause-err
returns-in-Ok-clause-err g c =
    let told = rw (c.deref.ensures.value) at c.decode_bytes.ensures.err in
    told_known c.args.form _ _ c.args.place (g.R.Source.state c.args.source.now).remaining c.in-Ok.bytes.items c.decode_bytes.result
    c.if-form.true c.in-Ok.ensures.ok told

pub returns-in-Err-clause-err : goal.returns-in-Err-clause-err
returns-in-Err-clause-err g c =
    rw (c.from_digits.ensures) (digits_reported (g.R.Source.state c.args.source.now) (g.R.Source.state c.read_digits.new.source) c.args.form
    c.args.place (g.R.Source.state c.args.source.now).remaining c.in-Err.fault c.if-form.true c.in-Err.ensures)

pub returns-in-Err-clause-reading : goal.returns-in-Err-clause-reading
returns-in-Err-clause-reading g c =
    rw (c.from_digits.ensures) (digits_read (g.R.Source.state c.args.source.now) (g.R.Source.state c.read_digits.new.source) c.args.form c.args.place
    c.in-Err.fault c.if-form.true c.in-Err.ensures)

pub returns-in-Ok-read_bundle-clause-ok : goal.returns-in-Ok-read_bundle-clause-ok
returns-in-Ok-read_bundle-clause-ok g c =
    accepted_source c.args.form (g.R.Source.state c.args.source.now).remaining c.in-Ok-read_bundle.bundle c.accept.result c.if-form.false
    c.in-Ok-read_bundle.ensures.ok c.accept.ensures.segments c.accept.ensures.end

pub returns-in-Ok-read_bundle-clause-err : goal.returns-in-Ok-read_bundle-clause-err
returns-in-Ok-read_bundle-clause-err g c =
    refused_source c.args.form (g.R.Source.state c.args.source.now).remaining _ _ c.args.place c.in-Ok-read_bundle.bundle c.accept.result
    c.if-form.false c.in-Ok-read_bundle.ensures.ok c.accept.ensures.refused

pub returns-in-Ok-read_bundle-clause-reading : goal.returns-in-Ok-read_bundle-clause-reading
returns-in-Ok-read_bundle-clause-reading g c =
    rw (c.if-form.false) (accepted_read c.args.place (g.R.Source.state c.args.source.now) (g.R.Source.state c.read_bundle.new.source)
    c.in-Ok-read_bundle.bundle c.accept.result c.accept.ensures.segment c.in-Ok-read_bundle.ensures.reading)

pub returns-in-Err-read_bundle-clause-err : goal.returns-in-Err-read_bundle-clause-err
returns-in-Err-read_bundle-clause-err g c =
    rw (c.from_source.ensures) (reported_bytes_of c.args.form (g.R.Source.state c.args.source.now).remaining _ _ c.args.place
    c.in-Err-read_bundle.fault c.if-form.false c.in-Err-read_bundle.ensures.err)

pub returns-in-Err-read_bundle-clause-reading : goal.returns-in-Err-read_bundle-clause-reading
returns-in-Err-read_bundle-clause-reading g c =
    rw (c.if-form.false, c.from_source.ensures) (decoded_ill c.args.place (g.R.Source.state c.args.source.now)
    (g.R.Source.state c.read_bundle.new.source) c.in-Err-read_bundle.fault c.in-Err-read_bundle.ensures.reading)

pub returns-in-Ok-clause-readers : goal.returns-in-Ok-clause-readers
returns-in-Ok-clause-readers g c =
    rw c.if-form.true (asks_none 1 (g.R.Source.state c.args.source.now).remaining (g.R.Source.state c.args.source.now)
    (g.R.Source.state c.read_digits.new.source) c.in-Ok.ensures.tails)

pub returns-in-Err-clause-readers : goal.returns-in-Err-clause-readers
returns-in-Err-clause-readers g c =
    rw c.if-form.true (asks_none 1 (g.R.Source.state c.args.source.now).remaining (g.R.Source.state c.args.source.now)
    (g.R.Source.state c.read_digits.new.source) c.in-Err.ensures.tails)

pub returns-in-Ok-read_bundle-clause-readers : goal.returns-in-Ok-read_bundle-clause-readers
returns-in-Ok-read_bundle-clause-readers g c = rw c.if-form.false c.in-Ok-read_bundle.ensures.reading.readers

pub returns-in-Err-read_bundle-clause-readers : goal.returns-in-Err-read_bundle-clause-readers
returns-in-Err-read_bundle-clause-readers g c = rw c.if-form.false c.in-Err-read_bundle.ensures.reading.readers
