-- The list of each segment has its events until the moment.
use Rattle.std.proofs.Common.{◌∙◌, ap, rules}
use Rattle.std.specs.List.Sorted.{IsNonDecreasingBy}
use Rattle.htl_event.specs.Events.{Event}
use Rattle.htl_event.specs.Moments.{counted_events}
use Rattle.htl_event.specs.contracts.until.UntilEventList.TheImpl.{events_of-value}
use Rattle.htl_case.proofs.Counted.{events_rise, lists_more}
use Rattle.htl_case.proofs.case.Case.until.Goals as goal

pub loop-segment-preserved : goal.loop-segment-preserved
loop-segment-preserved c =
    let segments = c.segments-segments.result.now in
    let events = c.events.ensures in
    let rise : IsNonDecreasingBy (λ (e : Event). e.sequence) c.events.result.now = rw events.value
    (events_rise c.segment-item.result events.fits) in (
      c.segments-segments.ensures.value,
      lists_more events_of-value.it c.args.until segments c.loop-segment.segment-index c.segment-item.result c.loop-segment.lists.items
          c.push.new.self.items c.new.result c.loop-segment-test.true c.segment-item.is
          (c.new.ensures rise ∙ ap (counted_events c.args.until) events.value) c.loop-segment.invariant.1 (search rules),
    )
