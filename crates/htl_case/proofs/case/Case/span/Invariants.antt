-- So far it is the span of the events of the segments that were gone through.
use Rattle.std.proofs.Common.{◌≡◌, take}
use Rattle.htl_segment.specs.Traces.{all_events}
use Rattle.htl_case.specs.Spans.{IsSpan}
use Rattle.htl_case.proofs.case.Case.span.Given as goal

abbrev pub invariant-loop-segment : goal.invariant-loop-segment
invariant-loop-segment l =
    (l.segment-items ≡ l.self.segments) × IsSpan (all_events (take l.segment-index l.segment-items)) l.span
