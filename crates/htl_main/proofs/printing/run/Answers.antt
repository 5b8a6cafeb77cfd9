-- `run` prints and reports what the answer over the case of its inputs says, or ends for a cause of theirs.
use Rattle.std.proofs.Common.{Vec, Global, ℕ, map, refl}
use Rattle.std.specs.Io.KnownBytes.{Appends}
use Rattle.std.specs.Option.{option_copied}
use Rattle.std.proofs.lemmas.Result.{err_from_is_err_and}
use Rattle.htl_inputs.specs.CutInputs.{decoding}
use Rattle.htl_main.specs.Causes.{IsCause}
use Rattle.htl_main.proofs.AfterDecoding.{refused_is, cause_of, input_about_none, inputs_stop, not_write, stop_no_write}
use Rattle.htl_main.proofs.AfterLoading.{ends, loaded_of, prints, refused_over, reports_of}
use Rattle.htl_main.proofs.printing.run.Goals as goal

pub returns-in_err-check_workers : goal.returns-in_err-check_workers
returns-in_err-check_workers g c =
    let p = err_from_is_err_and c.from_residual.result c.from_residual.ensures.1 in
    let unfit = c.in_err-check_workers.ensures.err in
    rw (p.1, refused_is p.0 p.2.0 p.2.1, unfit.0) (record {
      outcome = record { cause = unfit.1; between = refl; written = λ told. absurd (cc told) };
      sink = record { untouched = λ other. refl; failed = λ told. absurd (cc told); fine = tt };
    })

pub returns-in_err-decoded : goal.returns-in_err-decoded
returns-in_err-decoded g c =
    let p = err_from_is_err_and c.from_residual-in_err-decoded.result c.from_residual-in_err-decoded.ensures.1 in
    let inputs = map (λ (input : Vec ℕ Global). input.items) c.args.inputs.now in
    let fault = c.in_err-decoded.field-0.0 in
    let stops = c.in_err-decoded.ensures.err in
    let form = c.args.job.now.setting.form in
    rw (p.1, refused_is p.0 p.2.0 p.2.1) (record {
      outcome = record {
        cause = inputs_stop c.args.job.now inputs (option_copied c.args.symbols) fault c.in_ok-check_workers.ensures.ok stops;
        between = input_about_none form inputs inputs fault stops;
        written = λ told. absurd (stop_no_write form inputs fault stops told);
      };
      sink = record { untouched = λ other. refl; failed = λ told. absurd (stop_no_write form inputs fault stops (cc told)); fine = tt };
    })

pub returns-in_err-loaded : goal.returns-in_err-loaded
returns-in_err-loaded g c =
    let p = err_from_is_err_and c.from_residual-in_err-loaded.result c.from_residual-in_err-loaded.ensures.1 in
    let job = c.args.job.now in
    let inputs = map (λ (input : Vec ℕ Global). input.items) c.args.inputs.now in
    let symbols = option_copied c.args.symbols in
    let decoded = c.in_ok-decoded.ensures.ok in
    let given = decoding c.in_ok-decoded.decoded.segments.items c.in_ok-decoded.decoded.cuts.items in
    let fault = c.in_err-loaded.field-0.0.fault in
    let why = c.in_err-loaded.ensures.err job refl refl in
    rw (p.1, p.2) (record {
      outcome = record {
        cause = cause_of job inputs symbols given fault c.in_ok-check_workers.ensures.ok decoded.given why;
        between = c.in_err-loaded.ensures.between job.setting.form inputs decoded.given.segments decoded.spans;
        written = λ told. absurd (not_write given symbols job fault why told);
      };
      sink = record { untouched = λ other. refl; failed = λ told. absurd (not_write given symbols job fault why (cc told)); fine = tt };
    })

pub returns-in_err-completed : goal.returns-in_err-completed
returns-in_err-completed g c =
    let p = err_from_is_err_and c.from_residual-in_err-completed.result c.from_residual-in_err-completed.ensures.1 in
    let job = c.args.job.now in
    let inputs = map (λ (input : Vec ℕ Global). input.items) c.args.inputs.now in
    let symbols = option_copied c.args.symbols in
    let decoded = c.in_ok-decoded.ensures.ok.given in
    let given = decoding c.in_ok-decoded.decoded.segments.items c.in_ok-decoded.decoded.cuts.items in
    let loaded = c.in_ok-loaded.loaded in
    let of = loaded_of job inputs symbols given loaded.case loaded.symbols c.in_ok-check_workers.ensures.ok decoded c.in_ok-loaded.ensures.ok in
    let fault = c.in_err-completed.field-0.0 in
    let is = c.in_err-completed.ensures in
    rw (p.1, refused_is p.0 p.2.0 p.2.1) (record {
      outcome = refused_over job inputs symbols loaded of (IsCause job inputs symbols) (g.W.Sink.state c.args.out.now).contents
          (g.W.Sink.state c.print_answer.new.out).contents fault
          (ends job.setting inputs symbols loaded.case loaded.symbols job of fault is.outcome.0) is.outcome.0 is.outcome.1;
      sink = record { untouched = is.sink.untouched; failed = λ told. is.sink.failed (cc told); fine = tt };
    })

pub returns : goal.returns
returns g c =
    let job = c.args.job.now in
    let inputs = map (λ (input : Vec ℕ Global). input.items) c.args.inputs.now in
    let symbols = option_copied c.args.symbols in
    let decoded = c.in_ok-decoded.ensures.ok.given in
    let given = decoding c.in_ok-decoded.decoded.segments.items c.in_ok-decoded.decoded.cuts.items in
    let loaded = c.in_ok-loaded.loaded in
    let of = loaded_of job inputs symbols given loaded.case loaded.symbols c.in_ok-check_workers.ensures.ok decoded c.in_ok-loaded.ensures.ok in
    let is = c.in_ok-completed.ensures in
    record {
      outcome = (
        prints job.setting inputs symbols loaded.case loaded.symbols job of
            (Appends (g.W.Sink.state c.args.out.now).contents (g.W.Sink.state c.print_answer.new.out).contents) is.outcome.0,
        reports_of job inputs symbols loaded of c.in_ok-completed.completed c.in_ok-loaded.ensures.coverage
            (c.in_ok-loaded.ensures.cut job.setting.form.hex inputs decoded.cuts) is.outcome.1,
      );
      sink = record { untouched = tt; failed = λ told. absurd (cc told); fine = is.sink.fine };
    }
