-- What is asked about is found where it is among the case's events until the moment.
use Rattle.std.proofs.Common.{◌≡◌, ◌∙◌, ◌||◌, Bool, List, ap}
use Rattle.htl_event.specs.Moments.{counted_events}
use Rattle.htl_segment.specs.Content.{Content}
use Rattle.htl_segment.specs.Traces.{all_events}
use Rattle.htl_question.specs.Questions.{is_of_all_handles, subject_of}
use Rattle.htl_question.specs.Subjects.{is_about}
use Rattle.htl_main.specs.Subjects.{absence_by, has_subject}
use Rattle.htl_main.proofs.UntilLaws.{any_until}
use Rattle.htl_main.proofs.completed.absence_of.Goals as goal

pub returns : goal.returns
returns c = λ known.
    let question = c.args.job.now.question in
    let until = c.moment-until.result in
    let events = all_events c.args.loaded.now.case.segments in
    let found : c.has_subject-has_subject.result ≡ has_subject question (counted_events until events) =
    c.has_subject-has_subject.ensures
    ∙ ap (λ (b : Bool). is_of_all_handles question || b) (any_until (is_about (subject_of question)) until c.segments.result.now)
    ∙ ap (λ (ss : List Content). has_subject question (counted_events until (all_events ss))) c.segments.ensures.value in (
      until,
      c.moment-until.ensures known,
      c.absence_by.ensures events c.span.ensures ∙ ap (λ (b : Bool). absence_by b question until events) found,
    )
