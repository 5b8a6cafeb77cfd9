-- What is said of the picked events is said of those of the trace, unless none is found and only open handles are wanted.
use Rattle.std.proofs.Common.{◌∙◌, sym}
use Rattle.htl_event.specs.Moments.{counted_events}
use Rattle.htl_segment.specs.Traces.{all_events}
use Rattle.htl_main.specs.Picking.{is_of_open_handles}
use Rattle.htl_main.proofs.PickedAnswers.{falls_short, falls_not_short, subject_among, tells_of_no_handle}
use Rattle.htl_main.proofs.UntilLaws.{subject_in_lists}
use Rattle.htl_main.proofs.picks.answers.subject_of_picks.Goals as goal

pub returns-then-falls_short-clause-none : goal.returns-then-falls_short-clause-none
returns-then-falls_short-clause-none c = λ until segments is named.
    let short = falls_short c.is_subject_in-has_subject.result (is_of_open_handles c.args.interest)
    (sym c.falls_short.ensures ∙ c.if-falls_short.true) in
    tells_of_no_handle c.args.job.now segments is.trace until c.args.interest _ is.case_of named c.requires is.picked.events
    (sym (subject_in_lists c.args.job.now.question c.lists.result.now _ _ c.is_subject_in-has_subject.ensures c.lists.ensures) ∙ short.0) short.1

pub returns-clause-some : goal.returns-clause-some
returns-clause-some c = λ until segments is named.
    let question = c.args.job.now.question in
    subject_among question c.args.interest (counted_events until (all_events is.trace.segments)) _ c.is_subject_in-has_subject.result
    c.requires is.picked.events
    (subject_in_lists question c.lists.result.now _ _ c.is_subject_in-has_subject.ensures c.lists.ensures)
    (falls_not_short c.is_subject_in-has_subject.result (is_of_open_handles c.args.interest)
    (sym c.falls_short.ensures ∙ c.if-falls_short.false))
