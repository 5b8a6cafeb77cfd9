-- So far it is the span of the events of the segments whose outlines were gone through.
use Rattle.std.proofs.Common.{◌≡◌, List, map, take}
use Rattle.std.specs.List.{AllByRecursion}
use Rattle.htl_segment.specs.Content.{Content, Fits}
use Rattle.htl_segment.specs.Outlines.{outline_of}
use Rattle.htl_segment.specs.Traces.{all_events}
use Rattle.htl_case.specs.Spans.{IsSpan}
use Rattle.htl_case.proofs.spans.span_of.Given as goal

abbrev pub invariant-loop-outline : goal.invariant-loop-outline
invariant-loop-outline l = (segments : List Content) → AllByRecursion Fits segments → l.outlines ≡ map outline_of segments
    → IsSpan (all_events (take l.outline-index segments)) l.span
