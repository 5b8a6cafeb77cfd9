-- The events that are gone through are those of the segment until the moment.
use Rattle.std.proofs.Common.{◌∙◌, ap}
use Rattle.std.specs.List.{list_any}
use Rattle.std.specs.List.Sorted.{IsNonDecreasingBy}
use Rattle.htl_event.specs.Events.{Event}
use Rattle.htl_event.specs.Moments.{counted_events}
use Rattle.htl_case.proofs.Counted.{events_rise}
use Rattle.htl_question.specs.Subjects.{is_about}
use Rattle.htl_main.proofs.completed.has_event_until.Goals as goal

pub returns : goal.returns
returns c =
    let events = c.events.ensures in
    let rise : IsNonDecreasingBy (λ (e : Event). e.sequence) c.events.result.now = rw events.value
    (events_rise c.args.segment.now events.fits) in
    c.has_event_about.ensures
    ∙ ap (list_any (is_about c.args.subject)) (c.events-2.ensures ∙ c.new.ensures rise ∙ ap (counted_events c.args.until) events.value)
