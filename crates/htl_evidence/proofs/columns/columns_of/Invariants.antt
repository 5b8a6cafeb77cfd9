-- So far there are the columns of the segments that were gone through.
use Rattle.std.proofs.Common.{take}
use Rattle.htl_evidence.specs.Columns.{HaveColumns}
use Rattle.htl_evidence.proofs.columns.columns_of.Given as goal

abbrev pub invariant-loop-segment : goal.invariant-loop-segment
invariant-loop-segment l = HaveColumns (take l.segment-index l.segments) l.all.items
