-- The lines, the coverage, and what is told beside them are those of one answer over the case.
use Rattle.std.proofs.Common.{◌≡◌, ◌∙◌, ℕ, Bool, Option, inr, ap}
use Rattle.std.proofs.lemmas.Result.{err_from_is_err_and}
use Rattle.std.specs.Option.{option_copied}
use Rattle.htl_event.specs.Moments.{counted_events}
use Rattle.htl_command.specs.declared.question.Job.{Job}
use Rattle.htl_segment.specs.Traces.{Trace, all_events}
use Rattle.htl_inputs.specs.CutInputs.{decoding}
use Rattle.htl_main.specs.Moments.{IsNamedMoment}
use Rattle.htl_main.specs.Subjects.{HasAbsence, absence_by, has_subject}
use Rattle.htl_main.specs.declared.completed.Absence.{Absence}
use Rattle.htl_main.proofs.Missing.{memory_cause, missing_cause, symbols_cause}
use Rattle.htl_main.proofs.PickedAnswers.{none_left, picked_as_of, told_by}
use Rattle.htl_main.proofs.picks.answers.answered_of_picks.Goals as goal

-- why nothing can be found is told by whether what is asked about is among the events that count
absence_of : (T : Trace) (job : Job) (until : Option ℕ) (found : Bool) (absence : Option Absence) → IsNamedMoment T job.until until
    → found ≡ has_subject job.question (counted_events until (all_events T.segments))
    → absence ≡ absence_by found job.question until (all_events T.segments) → HasAbsence T job absence
absence_of T job until found absence named is by =
    (until, named, by ∙ ap (λ (b : Bool). absence_by b job.question until (all_events T.segments)) is)

pub returns-in_err-missed-clause-err : goal.returns-in_err-missed-clause-err
returns-in_err-missed-clause-err g c =
    let p = err_from_is_err_and c.from_residual.result c.from_residual.ensures.1 in
    rw (p.1, p.2) (λ segments is. memory_cause (decoding segments c.args.cuts.now) (option_copied c.args.symbols) c.args.job.now is.trace is.case_of)

pub returns-in_err-check_gaps-clause-err : goal.returns-in_err-check_gaps-clause-err
returns-in_err-check_gaps-clause-err g c =
    let p = err_from_is_err_and c.from_residual-in_err-check_gaps.result c.from_residual-in_err-check_gaps.ensures.1 in
    let missing = c.in_err-check_gaps.ensures.err in
    rw (p.1, p.2) (λ segments is.
    let missed = c.in_ok-missed.ensures c.args.interest segments is in
    let gap = missing.1 is.trace missed in
    missing_cause (decoding segments c.args.cuts.now) (option_copied c.args.symbols) c.args.job.now is.trace c.in_err-check_gaps.field-0.0 is.case_of missing.0
    gap.0 gap.1)

pub returns-in_err-symbols-clause-err : goal.returns-in_err-symbols-clause-err
returns-in_err-symbols-clause-err g c =
    let p = err_from_is_err_and c.from_residual-in_err-symbols.result c.from_residual-in_err-symbols.ensures.1 in
    rw (p.1, p.2) (λ segments is.
    let missed = c.in_ok-missed.ensures c.args.interest segments is in
    symbols_cause (decoding segments c.args.cuts.now) (option_copied c.args.symbols) c.args.job.now is.trace c.in_err-symbols.field-0.0 is.case_of
    (λ complete. c.in_ok-check_gaps.ensures.ok complete is.trace missed) c.in_err-symbols.ensures.err)

pub returns-in_err-check_absence-clause-err : goal.returns-in_err-check_absence-clause-err
returns-in_err-check_absence-clause-err g c =
    let p = err_from_is_err_and c.from_residual-in_err-check_absence.result c.from_residual-in_err-check_absence.ensures.1 in
    let refused = c.in_err-check_absence.ensures.err in
    rw (p.1, p.2, refused.0) (λ segments is.
    let missed = c.in_ok-missed.ensures c.args.interest segments is in
    let named = c.moment-until.ensures is.trace (c.coverage-coverage.ensures is.trace missed) in
    let kept = picked_as_of segments is.trace is.case_of (c.keep_until.ensures.until c.args.interest is.trace is.picked) in (
      refused.1,
      is.trace,
      (is.case_of, λ complete. c.in_ok-check_gaps.ensures.ok complete is.trace missed),
      c.in_ok-symbols.symbols,
      c.in_ok-symbols.ensures.ok,
      refused.2.0,
      rw (← refused.2.1) (absence_of is.trace c.args.job.now c.moment-until.result c.in-Some.has_subject c.absence_by-absence.result named
          (c.in-Some.ensures.some c.moment-until.result segments kept named)
          (c.absence_by-absence.ensures (all_events is.trace.segments) (c.span.ensures is.trace is.case_of.is_case.trace kept.picked.outlines))),
    ))

pub returns-in_err-answer-clause-err : goal.returns-in_err-answer-clause-err
returns-in_err-answer-clause-err g c =
    let p = err_from_is_err_and c.from_residual-in_err-answer.result c.from_residual-in_err-answer.ensures.1 in
    rw (p.1, p.2) (λ segments is. memory_cause (decoding segments c.args.cuts.now) (option_copied c.args.symbols) c.args.job.now is.trace is.case_of)

pub returns-in_err-lines-clause-err : goal.returns-in_err-lines-clause-err
returns-in_err-lines-clause-err g c =
    let p = err_from_is_err_and c.from_residual-in_err-lines.result c.from_residual-in_err-lines.ensures.1 in
    rw (p.1, p.2) (λ segments is.
    let T = is.trace in
    let missed = c.in_ok-missed.ensures c.args.interest segments is in
    inr (T, (is.case_of, λ complete. c.in_ok-check_gaps.ensures.ok complete T missed)))

pub returns-clause-ok : goal.returns-clause-ok
returns-clause-ok g c = λ segments is.
    let T = is.trace in
    let missed = c.in_ok-missed.ensures c.args.interest segments is in
    let until = c.moment-until.result in
    let named = c.moment-until.ensures T (c.coverage-coverage.ensures T missed) in
    let kept = picked_as_of segments T is.case_of (c.keep_until.ensures.until c.args.interest T is.picked) in
    record {
      trace = T;
      taken = (is.case_of, λ complete. c.in_ok-check_gaps.ensures.ok complete T missed);
      table = c.in_ok-symbols.symbols;
      named = c.in_ok-symbols.ensures.ok;
      about = λ coded. rw (← c.in_ok-check_absence.ensures.ok coded) (absence_of T c.args.job.now until c.in-Some.has_subject
          c.absence_by-absence.result named (c.in-Some.ensures.some until segments kept named)
          (c.absence_by-absence.ensures (all_events T.segments) (c.span.ensures T is.case_of.is_case.trace kept.picked.outlines)));
      is = (
        until,
        named,
        c.in_ok-answer.answer,
        c.in_ok-answer.ensures T until (told_by c.args.job.now.question _ _ _ segments _ c.new-evidence.ensures c.requires kept),
        c.in_ok-lines.ensures,
      );
    }

pub returns-clause-reports : goal.returns-clause-reports
returns-clause-reports g c = λ segments is.
    let T = is.trace in
    let missed = c.in_ok-missed.ensures c.args.interest segments is in
    let until = c.moment-until.result in
    let named = c.moment-until.ensures T (c.coverage-coverage.ensures T missed) in
    let kept = picked_as_of segments T is.case_of (c.keep_until.ensures.until c.args.interest T is.picked) in
    record {
      coverage = (T, is.case_of, c.coverage-coverage.ensures T missed);
      cut_are = c.cut_inputs.ensures;
      absence = (
        T,
        is.case_of,
        absence_of T c.args.job.now until c.in-Some.has_subject c.absence_by-absence.result named
            (c.in-Some.ensures.some until segments kept named)
            (c.absence_by-absence.ensures (all_events T.segments) (c.span.ensures T is.case_of.is_case.trace kept.picked.outlines)),
      );
      remarks = (
        T,
        is.case_of,
        c.in_ok-symbols.symbols,
        c.in_ok-symbols.ensures.ok,
        (
          until,
          named,
          c.in_ok-answer.answer,
          c.in_ok-answer.ensures T until (told_by c.args.job.now.question _ _ _ segments _ c.new-evidence.ensures c.requires kept),
          c.remarks_on.ensures,
        ),
      );
    }

pub returns-in_default-clause-none : goal.returns-in_default-clause-none
returns-in_default-clause-none g c = λ segments is.
    let T = is.trace in
    let missed = c.in_ok-missed.ensures c.args.interest segments is in
    let named = c.moment-until.ensures T (c.coverage-coverage.ensures T missed) in
    let kept = picked_as_of segments T is.case_of (c.keep_until.ensures.until c.args.interest T is.picked) in
    none_left c.subject_of_picks.result c.subject_of_picks.ensures.none c.in_default.not-Some c.moment-until.result segments kept named
