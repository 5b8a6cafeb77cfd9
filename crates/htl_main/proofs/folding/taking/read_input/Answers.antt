-- A folder takes the segments of a source, which is read as one of the run, or its fault is reported.
use Rattle.htl_inputs.proofs.DigitsLaws.{digits_read, digits_reported, err_known, ok_known, told_known}
use Rattle.htl_inputs.proofs.OneSource.{accepted_read, decoded_ill, reported_bytes_of}
use Rattle.htl_reading.proofs.ReadLaws.{asks_none}
use Rattle.htl_main.specs.Folders.{folds_of}
use Rattle.htl_main.proofs.FoldInputs.{TookInput, TookOwn, fault_kept, source_err, source_kept, source_ok, unread_kept}
use Rattle.htl_main.proofs.folding.taking.read_input.Goals as goal

pub returns-in-Ok-clause-ok : goal.returns-in-Ok-clause-ok
returns-in-Ok-clause-ok g c =
    let taken = rw (c.deref.ensures.value) at c.take_bytes.ensures.ok in
    ok_known (λ end input. TookInput folds_of c.args.folder.now c.take_bytes.new.folder c.args.setting.form input end) c.args.setting.form
    (g.R.Source.state c.args.source.now).remaining c.in-Ok.bytes.items c.take_bytes.result c.if-setting.true c.in-Ok.ensures.ok taken

pub returns-in-Ok-clause-err : goal.returns-in-Ok-clause-err
returns-in-Ok-clause-err g c =
    let told = rw (c.deref.ensures.value) at c.take_bytes.ensures.err in
    told_known c.args.setting.form _ _ c.args.place (g.R.Source.state c.args.source.now).remaining c.in-Ok.bytes.items c.take_bytes.result
    c.if-setting.true c.in-Ok.ensures.ok told

pub returns-in-Ok-clause-kept : goal.returns-in-Ok-clause-kept
returns-in-Ok-clause-kept g c =
    let left = (g.R.Source.state c.read_digits.new.source).remaining in
    let kept = rw (c.deref.ensures.value) at c.take_bytes.ensures.kept in
    err_known (λ fault input. TookOwn folds_of c.args.folder.now c.take_bytes.new.folder c.args.setting.form left input fault)
    c.args.setting.form (g.R.Source.state c.args.source.now).remaining c.in-Ok.bytes.items c.take_bytes.result c.if-setting.true
    c.in-Ok.ensures.ok (λ input has. kept input left has)

pub returns-in-Err-clause-err : goal.returns-in-Err-clause-err
returns-in-Err-clause-err g c =
    rw (c.from_digits.ensures) (digits_reported (g.R.Source.state c.args.source.now) (g.R.Source.state c.read_digits.new.source)
    c.args.setting.form c.args.place (g.R.Source.state c.args.source.now).remaining c.in-Err.fault c.if-setting.true c.in-Err.ensures)

pub returns-in-Err-clause-reading : goal.returns-in-Err-clause-reading
returns-in-Err-clause-reading g c =
    rw (c.from_digits.ensures) (digits_read (g.R.Source.state c.args.source.now) (g.R.Source.state c.read_digits.new.source)
    c.args.setting.form c.args.place c.in-Err.fault c.if-setting.true c.in-Err.ensures)

pub returns-in-Err-clause-kept : goal.returns-in-Err-clause-kept
returns-in-Err-clause-kept g c =
    rw (c.from_digits.ensures) (unread_kept folds_of c.args.folder.now c.args.setting.form c.args.place (g.R.Source.state c.args.source.now).remaining _
    c.in-Err.fault c.if-setting.true)

pub returns-in-Ok-take_source-clause-ok : goal.returns-in-Ok-take_source-clause-ok
returns-in-Ok-take_source-clause-ok g c =
    source_ok folds_of c.args.folder.now c.take_source.new.keeper c.args.setting.form c.args.place (g.R.Source.state c.args.source.now).remaining
    c.in-Ok-take_source.end c.check_end.result c.if-setting.false c.in-Ok-take_source.ensures.ok c.check_end.ensures.end

pub returns-in-Ok-take_source-clause-err : goal.returns-in-Ok-take_source-clause-err
returns-in-Ok-take_source-clause-err g c =
    source_err folds_of c.args.folder.now c.take_source.new.keeper c.args.setting.form c.args.place (g.R.Source.state c.args.source.now).remaining _ _
    c.in-Ok-take_source.end c.check_end.result c.if-setting.false c.in-Ok-take_source.ensures.ok c.check_end.ensures.refused

pub returns-in-Ok-take_source-clause-kept : goal.returns-in-Ok-take_source-clause-kept
returns-in-Ok-take_source-clause-kept g c =
    source_kept folds_of c.args.folder.now c.take_source.new.keeper c.args.setting.form c.args.place (g.R.Source.state c.args.source.now).remaining _
    c.in-Ok-take_source.end c.check_end.result c.if-setting.false c.in-Ok-take_source.ensures.ok c.check_end.ensures.refused

pub returns-in-Ok-take_source-clause-reading : goal.returns-in-Ok-take_source-clause-reading
returns-in-Ok-take_source-clause-reading g c =
    rw (c.if-setting.false) (accepted_read c.args.place (g.R.Source.state c.args.source.now) (g.R.Source.state c.take_source.new.source)
    c.in-Ok-take_source.end c.check_end.result c.check_end.ensures.segment c.in-Ok-take_source.ensures.reading)

pub returns-in-Err-take_source-clause-err : goal.returns-in-Err-take_source-clause-err
returns-in-Err-take_source-clause-err g c =
    rw (c.from_source.ensures) (reported_bytes_of c.args.setting.form (g.R.Source.state c.args.source.now).remaining _ _ c.args.place
    c.in-Err-take_source.fault c.if-setting.false c.in-Err-take_source.ensures.err)

pub returns-in-Err-take_source-clause-kept : goal.returns-in-Err-take_source-clause-kept
returns-in-Err-take_source-clause-kept g c =
    rw (c.from_source.ensures) (fault_kept folds_of c.args.folder.now c.take_source.new.keeper c.args.setting.form c.args.place
    (g.R.Source.state c.args.source.now).remaining _ c.in-Err-take_source.fault c.if-setting.false c.in-Err-take_source.ensures.kept)

pub returns-in-Err-take_source-clause-reading : goal.returns-in-Err-take_source-clause-reading
returns-in-Err-take_source-clause-reading g c =
    rw (c.if-setting.false, c.from_source.ensures) (decoded_ill c.args.place (g.R.Source.state c.args.source.now)
    (g.R.Source.state c.take_source.new.source) c.in-Err-take_source.fault c.in-Err-take_source.ensures.reading)

pub returns-in-Ok-clause-readers : goal.returns-in-Ok-clause-readers
returns-in-Ok-clause-readers g c =
    rw c.if-setting.true (asks_none 1 (g.R.Source.state c.args.source.now).remaining (g.R.Source.state c.args.source.now)
    (g.R.Source.state c.read_digits.new.source) c.in-Ok.ensures.tails)

pub returns-in-Err-clause-readers : goal.returns-in-Err-clause-readers
returns-in-Err-clause-readers g c =
    rw c.if-setting.true (asks_none 1 (g.R.Source.state c.args.source.now).remaining (g.R.Source.state c.args.source.now)
    (g.R.Source.state c.read_digits.new.source) c.in-Err.ensures.tails)

pub returns-in-Ok-take_source-clause-readers : goal.returns-in-Ok-take_source-clause-readers
returns-in-Ok-take_source-clause-readers g c = rw c.if-setting.false c.in-Ok-take_source.ensures.reading.readers

pub returns-in-Err-take_source-clause-readers : goal.returns-in-Err-take_source-clause-readers
returns-in-Err-take_source-clause-readers g c = rw c.if-setting.false c.in-Err-take_source.ensures.reading.readers
