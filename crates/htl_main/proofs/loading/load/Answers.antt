-- `load` reads its sources one after another, also where it ends after they were decoded, and then for what they come to.
use Rattle.std.proofs.lemmas.Result.{err_from_is_err_and}
use Rattle.std.proofs.Common.{map, refl}
use Rattle.std.specs.Option.{option_copied}
use Rattle.htl_device.specs.States.{ends, lefts}
use Rattle.htl_inputs.specs.CutInputs.{decoding}
use Rattle.htl_inputs.proofs.ReadingLaws.{ends_too, read_then, unread, well}
use Rattle.htl_main.specs.Loading.{in_setting}
use Rattle.htl_main.proofs.AfterDecoding.{refused_is, not_write, reads_then, some_job, sources_cause_of, sources_stop, stop_about_none}
use Rattle.htl_inputs.proofs.SourceLaws.{none_asked}
use Rattle.htl_main.proofs.loading.load.Goals as goal

pub returns-in_err-check_workers : goal.returns-in_err-check_workers
returns-in_err-check_workers g c =
    let p = err_from_is_err_and c.from_residual.result c.from_residual.ensures.1 in
    let unfit = c.in_err-check_workers.ensures.err in
    rw (p.1, refused_is p.0 p.2.0 p.2.1, unfit.0) (record {
      outcome = λ texts all. (λ job as_of. unfit.1, refl);
      case = tt;
      coverage = tt;
      workers = tt;
      reading = unread c.args.setting.form.hex (map g.R.Source.state c.args.inputs.now) c.requires.ready;
      readers = none_asked c.args.setting.form.hex c.args.setting.workers (map g.R.Source.state c.args.inputs.now);
      no_write = λ is. cc is;
    })

pub returns-in_err-decoded : goal.returns-in_err-decoded
returns-in_err-decoded g c =
    let p = err_from_is_err_and c.from_residual-in_err-decoded.result c.from_residual-in_err-decoded.ensures.1 in
    let is = c.in_err-decoded.ensures in
    let fault = c.in_err-decoded.field-0.0 in
    let now = map g.R.Source.state c.read_all.new.sources in
    let setting = c.args.setting in
    rw (p.1, refused_is p.0 p.2.0 p.2.1) (record {
      outcome = λ texts all. (
        λ job as_of. sources_stop (in_setting setting job) texts (lefts now) (ends now) (option_copied c.args.symbols) fault
            c.in_ok-check_workers.ensures.ok (is.reads.outcome texts all),
        stop_about_none setting.form texts texts (lefts now) (ends now) fault (is.reads.outcome texts all),
      );
      case = tt;
      coverage = tt;
      workers = tt;
      reading = ends_too setting.form.hex (map g.R.Source.state c.args.inputs.now) now fault is.reads.reading;
      readers = is.reads.readers;
      no_write = is.no_write;
    })

pub returns-in_err-loaded : goal.returns-in_err-loaded
returns-in_err-loaded g c =
    let p = err_from_is_err_and c.from_residual-in_err-loaded.result c.from_residual-in_err-loaded.ensures.1 in
    let symbols = option_copied c.args.symbols in
    let fault = c.in_err-loaded.field-0.0.fault in
    let now = map g.R.Source.state c.read_all.new.sources in
    let setting = c.args.setting in
    let given = decoding c.in_ok-decoded.decoded.segments.items c.in_ok-decoded.decoded.cuts.items in
    let decoded = c.in_ok-decoded.ensures.reads in
    let why = c.in_err-loaded.ensures.err in
    let some = in_setting setting (record some_job { until = c.args.until }) in
    rw (p.1, p.2) (record {
      outcome = λ texts all. (
        λ job as_of. sources_cause_of (in_setting setting job) texts (lefts now) (ends now) symbols given fault
            c.in_ok-check_workers.ensures.ok (decoded.outcome texts all).given (why (in_setting setting job) refl as_of),
        c.in_err-loaded.ensures.between setting.form texts (decoded.outcome texts all).given.segments (decoded.outcome texts all).spans,
      );
      case = tt;
      coverage = tt;
      workers = tt;
      reading = reads_then setting.form.hex (map g.R.Source.state c.args.inputs.now) now c.in_ok-decoded.decoded given symbols some fault
          decoded.reading (why some refl refl);
      readers = decoded.readers;
      no_write = not_write given symbols some fault (why some refl refl);
    })

pub returns : goal.returns
returns g c =
    let is = c.in_ok-loaded.ensures in
    let form = c.args.setting.form in
    let read = c.in_ok-decoded.ensures.reads in
    rw (c.with_index.ensures) (record {
      outcome = λ texts all.
          let decoded = (read.outcome texts all).given in (
            record {
              workers = c.in_ok-check_workers.ensures.ok;
              given = decoding c.in_ok-decoded.decoded.segments.items c.in_ok-decoded.decoded.cuts.items;
              decoded = decoded;
              loaded = is.ok;
            },
            is.cut form.hex texts decoded.cuts,
          );
      case = is.case;
      coverage = is.coverage;
      workers = c.in_ok-check_workers.ensures.ok;
      reading = read_then form.hex (map g.R.Source.state c.args.inputs.now) (map g.R.Source.state c.read_all.new.sources)
          c.in_ok-decoded.decoded (well c.in_ok-loaded.loaded) read.reading (λ at told. cc told) tt;
      readers = read.readers;
      no_write = tt;
    })
