-- So far the segments that were gone through were put after those that were there.
use Rattle.std.proofs.Common.{◌≡◌, ◌++◌, take}
use Rattle.htl_case.proofs.growing.push_copies.Given as goal

abbrev pub invariant-loop-segment : goal.invariant-loop-segment
invariant-loop-segment l = l.all.items ≡ l.initial.all.items ++ take l.segment-index l.segments
