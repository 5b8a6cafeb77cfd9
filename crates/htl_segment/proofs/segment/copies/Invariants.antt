-- The copies so far are the segments so far.
use Rattle.std.proofs.Common.{◌≡◌, take}
use Rattle.htl_segment.proofs.segment.copies.Given as goal

abbrev pub invariant-loop-segment : goal.invariant-loop-segment
invariant-loop-segment g l = l.copies.items ≡ take l.segment-index l.segments
