-- So far the sequences of the segments that were gone through were seen, and these segments fit the format.
use Rattle.std.proofs.Common.{map, take, All}
use Rattle.htl_segment.specs.Content.{Fits}
use Rattle.htl_segment.specs.Repeated.{sequence_of}
use Rattle.htl_segment.specs.Seen.{Saw}
use Rattle.htl_segment.specs.Traces.{all_events}
use Rattle.htl_case.proofs.sequences.one_comes_twice.Given as goal

abbrev pub invariant-loop-segment : goal.invariant-loop-segment
invariant-loop-segment l = record {
  saw : Saw l.seen (map sequence_of (all_events (take l.segment-index l.segments)));
  fit : All Fits (take l.segment-index l.segments);
}
