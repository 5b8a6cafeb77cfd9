-- So far these are the outlines of the segments that were gone through.
use Rattle.std.proofs.Common.{◌≡◌, map, take}
use Rattle.htl_segment.specs.Outlines.{outline_of}
use Rattle.htl_case.proofs.outlines.outlines_of.Given as goal

abbrev pub invariant-loop-segment : goal.invariant-loop-segment
invariant-loop-segment l = l.outlines.items ≡ map outline_of (take l.segment-index l.segments)
