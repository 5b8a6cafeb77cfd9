-- The number so far is the greatest sequence of the segments that were passed.
use Rattle.std.proofs.Common.{take}
use Rattle.std.specs.Prelude.{Contains}
use Rattle.htl_event.specs.Handles.{IsGreatestSequence}
use Rattle.htl_segment.specs.Traces.{all_events}
use Rattle.htl_segment.proofs.rising.greatest_sequence.Given as goal

abbrev pub invariant-loop-segment : goal.invariant-loop-segment
invariant-loop-segment l = IsGreatestSequence (Contains (all_events (take l.segment-index l.segments))) l.greatest
