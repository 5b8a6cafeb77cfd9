-- So far the lists have the events until the moment of the segments that were gone through.
use Rattle.std.proofs.Common.{◌≡◌, take}
use Rattle.std.specs.Prelude.{flat_map}
use Rattle.htl_event.specs.Moments.{counted_events}
use Rattle.htl_event.specs.contracts.until.UntilEventList.TheImpl.{events_of-value}
use Rattle.htl_segment.specs.Traces.{all_events}
use Rattle.htl_case.proofs.case.Case.until.Given as goal

abbrev pub invariant-loop-segment : goal.invariant-loop-segment
invariant-loop-segment l = (l.segments ≡ l.self.segments) ×
    (flat_map events_of-value.it l.lists.items ≡ counted_events l.until (all_events (take l.segment-index l.segments)))
