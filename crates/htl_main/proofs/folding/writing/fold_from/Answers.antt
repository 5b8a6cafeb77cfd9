-- `fold_from` writes the state of what its sources come to once all were read, or ends for a cause of theirs or of the state.
use Rattle.std.proofs.Common.{[], map, refl}
use Rattle.std.proofs.lemmas.Result.{err_from_is_err_and}
use Rattle.std.specs.Io.KnownBytes.{Appends}
use Rattle.htl_device.specs.Devices.{AppendsPrefix}
use Rattle.htl_inputs.proofs.ReadingLaws.{ends_too, ill, read_then, well}
use Rattle.htl_main.proofs.AfterDecoding.{refused_is}
use Rattle.htl_main.proofs.FoldInputs.{nothing_folded}
use Rattle.htl_main.proofs.LateFaults.{read_late}
use Rattle.htl_main.proofs.StateWritten.{unread_unwritten, unsaved_about_none, unsaved_late, unsaved_no_write, unsaved_unwritten, writes_state}
use Rattle.htl_main.proofs.folding.writing.fold_from.Goals as goal

pub returns-in_err-folded : goal.returns-in_err-folded
returns-in_err-folded g c =
    let p = err_from_is_err_and c.from_residual.result c.from_residual.ensures.1 in
    let is = c.in_err-folded.ensures in
    let now = map g.R.Source.state c.load_folded.new.inputs in
    let out = (g.W.Sink.state c.args.out.now).contents in
    let fault = c.in_err-folded.field-0.0.fault in
    rw (p.1, p.2) (record {
      outcome = λ texts all. unread_unwritten c.args.setting texts now out out fault
          (is.outcome [] (rw (c.none.ensures.analyst) nothing_folded) texts all);
      workers = tt;
      between = is.between;
      reading = ends_too c.args.setting.form.hex (map g.R.Source.state c.args.inputs.now) now fault is.reading;
      readers = is.readers;
      sink = record { untouched = λ other. refl; failed = λ told. absurd (is.no_write (cc told)); fine = tt };
    })

pub returns-in_err-bytes : goal.returns-in_err-bytes
returns-in_err-bytes g c =
    let p = err_from_is_err_and c.from_residual-in_err-bytes.result c.from_residual-in_err-bytes.ensures.1 in
    let is = c.in_ok-folded.ensures in
    let now = map g.R.Source.state c.load_folded.new.inputs in
    let out = (g.W.Sink.state c.args.out.now).contents in
    let analyst = c.in_ok-folded.folded.analyst in
    let added = c.in_ok-folded.added in
    let fault = c.in_err-bytes.field-0.0 in
    let told = c.in_err-bytes.ensures.err in
    rw (p.1, refused_is p.0 p.2.0 p.2.1) (record {
      outcome = λ texts all. unsaved_unwritten c.args.setting texts now out out analyst added fault
          (is.outcome [] (rw (c.none.ensures.analyst) nothing_folded) texts all) told;
      workers = tt;
      between = unsaved_about_none analyst fault told;
      reading = read_late c.args.setting.form.hex (map g.R.Source.state c.args.inputs.now) now (c.in_ok-folded.folded, added) (ill fault)
          is.reading (unsaved_late analyst fault told);
      readers = is.readers;
      sink = record {
        untouched = λ other. refl;
        failed = λ is_write. absurd (unsaved_no_write analyst fault told (cc is_write));
        fine = tt;
      };
    })

pub returns-in_err-write_lines : goal.returns-in_err-write_lines
returns-in_err-write_lines g c =
    let p = err_from_is_err_and c.from_residual-in_err-write_lines.result c.from_residual-in_err-write_lines.ensures.1 in
    let is = c.in_ok-folded.ensures in
    let now = map g.R.Source.state c.load_folded.new.inputs in
    let old = (g.W.Sink.state c.args.out.now).contents in
    let new = (g.W.Sink.state c.write_lines.new.out).contents in
    let folded = c.in_ok-folded.folded in
    let added = c.in_ok-folded.added in
    let reported = c.in_err-write_lines.ensures.err in
    rw (p.1, refused_is p.0 p.2.0 p.2.1, reported.0) (record {
      outcome = λ texts all. (
        added,
        writes_state c.args.setting texts folded added c.in_ok-bytes.bytes.items
            (is.outcome [] (rw (c.none.ensures.analyst) nothing_folded) texts all) c.in_ok-bytes.ensures.saved (AppendsPrefix old new)
            (rw (← c.deref.ensures.value) (reported.2)),
      );
      workers = tt;
      between = refl;
      reading = read_late c.args.setting.form.hex (map g.R.Source.state c.args.inputs.now) now (folded, added)
          (ill _) is.reading tt;
      readers = is.readers;
      sink = record { untouched = λ other. absurd (other refl); failed = λ told. reported.1; fine = tt };
    })

pub returns : goal.returns
returns g c =
    let is = c.in_ok-folded.ensures in
    let now = map g.R.Source.state c.load_folded.new.inputs in
    let old = (g.W.Sink.state c.args.out.now).contents in
    let new = (g.W.Sink.state c.write_lines.new.out).contents in
    let folded = c.in_ok-folded.folded in
    let added = c.in_ok-folded.added in
    record {
      outcome = λ texts all. writes_state c.args.setting texts folded added c.in_ok-bytes.bytes.items
          (is.outcome [] (rw (c.none.ensures.analyst) nothing_folded) texts all) c.in_ok-bytes.ensures.saved (Appends old new)
          (rw (← c.deref.ensures.value) (c.in_ok-write_lines.ensures.ok));
      workers = is.workers;
      between = tt;
      reading = read_then c.args.setting.form.hex (map g.R.Source.state c.args.inputs.now) now (folded, added) (well added) is.reading
          (λ at told. cc told) tt;
      readers = is.readers;
      sink = record { untouched = tt; failed = λ told. absurd (cc told); fine = c.in_ok-write_lines.ensures.fine };
    }
