-- So far these are the sequences of the segments that were gone through, and these segments fit the format.
use Rattle.std.proofs.Common.{◌≡◌, map, take, All}
use Rattle.htl_segment.specs.Content.{Fits}
use Rattle.htl_segment.specs.Traces.{all_events}
use Rattle.htl_segment.specs.Repeated.{sequence_of}
use Rattle.htl_case.proofs.sequences.sequences_of.Given as goal

abbrev pub invariant-loop-segment : goal.invariant-loop-segment
invariant-loop-segment l = record {
  value : l.sequences.items ≡ map sequence_of (all_events (take l.segment-index l.segments));
  fit : All Fits (take l.segment-index l.segments);
}
