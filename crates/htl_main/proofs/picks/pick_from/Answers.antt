-- What `pick_from` makes of picks comes of the segments of all inputs, and where it ends before the first read no source is read.
use Rattle.std.proofs.Common.{map, false, refl}
use Rattle.std.specs.Option.{option_copied}
use Rattle.std.proofs.lemmas.Result.{err_from_is_err_and}
use Rattle.htl_device.specs.States.{ends, lefts}
use Rattle.htl_inputs.proofs.ReadingLaws.{ends_too, unread}
use Rattle.htl_inputs.proofs.SourceLaws.{none_asked}
use Rattle.htl_main.proofs.AfterDecoding.{sources_stop}
use Rattle.htl_main.proofs.AfterPicking.{answer_no_write, ends_printing, is_picked, picked_for}
use Rattle.htl_main.proofs.PickedAnswers.{none_left}
use Rattle.htl_main.proofs.picks.pick_from.Goals as goal

pub returns-in_err-check_workers : goal.returns-in_err-check_workers
returns-in_err-check_workers g c =
    let p = err_from_is_err_and c.from_residual.result c.from_residual.ensures.1 in
    let unfit = c.in_err-check_workers.ensures.err in
    rw (p.1, p.2, unfit.0) (record {
      outcome = λ texts all. (unfit.1, λ told. absurd (cc told));
      reading = unread false (map g.R.Source.state c.args.inputs.now) c.requires.ready;
      readers = none_asked false c.args.job.now.setting.workers (map g.R.Source.state c.args.inputs.now);
      sink = record { untouched = λ other. refl; failed = λ told. absurd (cc told); fine = tt };
      unwritten = λ lack told. absurd (cc told);
      no_case = λ broken is. cc is;
    })

pub returns-in_err-all : goal.returns-in_err-all
returns-in_err-all g c =
    let p = err_from_is_err_and c.from_residual-in_err-all.result c.from_residual-in_err-all.ensures.1 in
    let is = c.in_err-all.ensures in
    let fault = c.in_err-all.field-0.0 in
    let now = map g.R.Source.state c.pick_all.new.sources in
    rw (p.1, p.2) (record {
      outcome = λ texts all. (
        sources_stop c.args.job.now texts (lefts now) (ends now) (option_copied c.args.symbols) fault c.in_ok-check_workers.ensures.ok
            (is.reads.outcome texts all),
        λ told. absurd (is.no_write told),
      );
      reading = ends_too false (map g.R.Source.state c.args.inputs.now) now fault is.reads.reading;
      readers = is.reads.readers;
      sink = record { untouched = λ other. refl; failed = λ told. absurd (is.no_write (cc told)); fine = tt };
      unwritten = λ lack told. absurd (cc told);
      no_case = is.no_case;
    })

pub returns-in_default : goal.returns-in_default
returns-in_default g c =
    is_picked c.args.job.now c.args.interest c.in_ok-all.all _ _ _ _ _ _ c.in_ok-check_workers.ensures.ok c.in_ok-all.ensures.reads (record {
      outcome = λ segments are.
          none_left c.of.result c.of.ensures.none c.in_default.not-Some c.args.interest segments are.picks_of are.fits;
      sink = record { untouched = tt; failed = λ told. absurd (cc told); fine = c.requires.out };
      unwritten = λ lack told. refl;
      ends = tt;
    })

pub returns-in_default-answered : goal.returns-in_default-answered
returns-in_default-answered g c =
    let all = c.in_ok-all.all in
    is_picked c.args.job.now c.args.interest all _ _ _ _ _ _ c.in_ok-check_workers.ensures.ok c.in_ok-all.ensures.reads (record {
      outcome = λ segments are.
          none_left _ c.in_ok-answered.ensures.none c.in_default-answered.not-Some segments
          (picked_for c.args.interest all.picks segments _ c.in-Some.ensures.some are);
      sink = record { untouched = tt; failed = λ told. absurd (cc told); fine = c.requires.out };
      unwritten = λ lack told. refl;
      ends = tt;
    })

pub returns-in_err-answered : goal.returns-in_err-answered
returns-in_err-answered g c =
    let p = err_from_is_err_and c.from_residual-in_err-answered.result c.from_residual-in_err-answered.ensures.1 in
    let all = c.in_ok-all.all in
    let is = c.in_err-answered.ensures in
    let fault = c.in_err-answered.field-0.0 in
    let unwritten = answer_no_write fault is.after in
    rw (p.1, p.2) (is_picked c.args.job.now c.args.interest all _ _ _ _ _ _ c.in_ok-check_workers.ensures.ok c.in_ok-all.ensures.reads (record {
      outcome = λ segments are.
          let for = picked_for c.args.interest all.picks segments _ c.in-Some.ensures.some are in
          (ends_printing fault is.after, λ told. rw (← c.deref.ensures.value) (is.err segments for), λ told. absurd (unwritten told));
      sink = record { untouched = λ other. refl; failed = λ told. absurd (unwritten (cc told)); fine = tt };
      unwritten = λ lack told. absurd (cc told);
      ends = ends_printing fault is.after;
    }))

pub returns-in_err-write_lines : goal.returns-in_err-write_lines
returns-in_err-write_lines g c =
    let p = err_from_is_err_and c.from_residual-in_err-write_lines.result c.from_residual-in_err-write_lines.ensures.1 in
    let all = c.in_ok-all.all in
    let reported = c.in_err-write_lines.ensures.err in
    rw (p.1, p.2, reported.0)
    (is_picked c.args.job.now c.args.interest all _ _ _ _ _ _ c.in_ok-check_workers.ensures.ok c.in_ok-all.ensures.reads (record {
      outcome = λ segments are.
          let for = picked_for c.args.interest all.picks segments _ c.in-Some.ensures.some are in (
            tt,
            λ other. absurd (other refl),
            λ told. record {
              lines = c.in-Some-answered.lines.items;
              are = rw (← c.deref.ensures.value) ((rw (c.in-Some-answered.is) at c.in_ok-answered.ensures.ok) segments for);
              written = rw (← c.deref-2.ensures.value) (reported.2);
            },
          );
      sink = record { untouched = λ other. absurd (other refl); failed = λ told. reported.1; fine = tt };
      unwritten = λ lack told. absurd (cc told);
      ends = tt;
    }))

pub returns : goal.returns
returns g c =
    let all = c.in_ok-all.all in
    is_picked c.args.job.now c.args.interest all _ _ _ _ _ _ c.in_ok-check_workers.ensures.ok c.in_ok-all.ensures.reads (record {
      outcome = λ segments are.
          let for = picked_for c.args.interest all.picks segments _ c.in-Some.ensures.some are in (
            record {
              lines = c.in-Some-answered.lines.items;
              are = rw (← c.deref.ensures.value) ((rw (c.in-Some-answered.is) at c.in_ok-answered.ensures.ok) segments for);
              written = rw (← c.deref-2.ensures.value) (c.in_ok-write_lines.ensures.ok);
            },
            rw (← c.deref.ensures.value) ((rw (c.in-Some-answered.is) at c.in_ok-answered.ensures.reports) segments for),
          );
      sink = record { untouched = tt; failed = λ told. absurd (cc told); fine = c.in_ok-write_lines.ensures.fine };
      unwritten = λ lack told. absurd (cc told);
      ends = tt;
    })
