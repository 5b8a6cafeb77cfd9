-- So far there are the columns of the segments that were gone through, and those that are left belong to segments to come.
use Rattle.std.proofs.Common.{drop, take}
use Rattle.std.specs.Vec.Iter.{into_iter_items, into_iter_len}
use Rattle.htl_evidence.specs.Columns.{AreAmong, AreLeft, HaveColumns}
use Rattle.htl_evidence.proofs.columns.columns_after.Given as goal

abbrev pub invariant-loop-segment : goal.invariant-loop-segment
invariant-loop-segment l = record {
  made : HaveColumns (take l.segment-index l.segments) l.all.items;
  left : AreLeft l.rest.segments.now (into_iter_items l.rest.columns) (into_iter_len l.rest.columns);
  among : AreAmong l.rest.segments.now (drop l.segment-index l.segments);
}
