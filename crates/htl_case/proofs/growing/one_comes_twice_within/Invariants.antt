-- So far the sequences within the span were seen of the segments that were gone through, and these fit the format.
use Rattle.std.proofs.Common.{take, All}
use Rattle.htl_segment.specs.Content.{Fits}
use Rattle.htl_segment.specs.Seen.{Saw}
use Rattle.htl_case.proofs.MoreSegments.{sequences_within}
use Rattle.htl_case.proofs.growing.one_comes_twice_within.Given as goal

abbrev pub invariant-loop-segment : goal.invariant-loop-segment
invariant-loop-segment l = record {
  saw : Saw l.seen (sequences_within l.span (take l.segment-index l.segments));
  fit : All Fits (take l.segment-index l.segments);
}
