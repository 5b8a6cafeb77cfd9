-- `run_from` reads its sources as `load` does, prints and reports what the answer over what was loaded says, or ends for a cause of that.
use Rattle.std.proofs.Common.{map, refl}
use Rattle.std.proofs.lemmas.Result.{err_from_is_err_and}
use Rattle.std.specs.Io.KnownBytes.{Appends}
use Rattle.std.specs.Option.{option_copied}
use Rattle.htl_device.specs.States.{ends, lefts}
use Rattle.htl_inputs.proofs.ReadingLaws.{ends_too, ill, read_then, well}
use Rattle.htl_main.specs.Causes.{IsSourcesCause}
use Rattle.htl_main.proofs.AfterDecoding.{refused_is}
use Rattle.htl_main.proofs.AfterLoading.{over_late, prints, refused_over, reports_of, sources_end}
use Rattle.htl_main.proofs.LateFaults.{read_late}
use Rattle.htl_main.proofs.streaming.run_from.Goals as goal

pub returns-in_err-loaded : goal.returns-in_err-loaded
returns-in_err-loaded g c =
    let p = err_from_is_err_and c.from_residual.result c.from_residual.ensures.1 in
    let is = c.in_err-loaded.ensures in
    rw (p.1, p.2) (record {
      outcome = λ texts all.
          let refused = is.outcome texts all in
          record {
            cause = refused.0 c.args.job.now refl;
            between = refused.1;
            written = λ told. absurd (is.no_write told);
          };
      reading = ends_too c.args.job.now.setting.form.hex (map g.R.Source.state c.args.inputs.now) (map g.R.Source.state c.load.new.inputs)
          c.in_err-loaded.field-0.0.fault is.reading;
      readers = is.readers;
      sink = record { untouched = λ other. refl; failed = λ told. absurd (is.no_write (cc told)); fine = tt };
    })

pub returns-in_err-completed : goal.returns-in_err-completed
returns-in_err-completed g c =
    let p = err_from_is_err_and c.from_residual-in_err-completed.result c.from_residual-in_err-completed.ensures.1 in
    let job = c.args.job.now in
    let symbols = option_copied c.args.symbols in
    let loaded = c.in_ok-loaded.loaded in
    let is = c.in_err-completed.ensures in
    let fault = c.in_err-completed.field-0.0 in
    let now = map g.R.Source.state c.load.new.inputs in
    rw (p.1, refused_is p.0 p.2.0 p.2.1) (record {
      outcome = λ texts all.
          let of = (c.in_ok-loaded.ensures.outcome texts all).0 in
          refused_over job texts symbols loaded of (IsSourcesCause job texts (lefts now) (ends now) symbols)
          (g.W.Sink.state c.args.out.now).contents (g.W.Sink.state c.print_answer.new.out).contents fault
          (sources_end job.setting texts symbols loaded.case loaded.symbols job of (lefts now) (ends now) fault is.outcome.0) is.outcome.0
          is.outcome.1;
      reading = read_late job.setting.form.hex (map g.R.Source.state c.args.inputs.now) now loaded (ill fault) c.in_ok-loaded.ensures.reading
          (over_late loaded.case job fault is.outcome.0);
      readers = c.in_ok-loaded.ensures.readers;
      sink = record { untouched = is.sink.untouched; failed = λ told. is.sink.failed (cc told); fine = tt };
    })

pub returns : goal.returns
returns g c =
    let job = c.args.job.now in
    let symbols = option_copied c.args.symbols in
    let loaded = c.in_ok-loaded.loaded in
    let is = c.in_ok-completed.ensures in
    let completed = c.in_ok-completed.completed in
    record {
      outcome = λ texts all.
          let of = c.in_ok-loaded.ensures.outcome texts all in (
            prints job.setting texts symbols loaded.case loaded.symbols job of.0
                (Appends (g.W.Sink.state c.args.out.now).contents (g.W.Sink.state c.print_answer.new.out).contents) is.outcome.0,
            reports_of job texts symbols loaded of.0 completed c.in_ok-loaded.ensures.coverage of.1 is.outcome.1,
          );
      reading = read_then job.setting.form.hex (map g.R.Source.state c.args.inputs.now) (map g.R.Source.state c.load.new.inputs) loaded
          (well completed) c.in_ok-loaded.ensures.reading (λ at told. cc told) tt;
      readers = c.in_ok-loaded.ensures.readers;
      sink = record { untouched = tt; failed = λ told. absurd (cc told); fine = is.sink.fine };
    }
