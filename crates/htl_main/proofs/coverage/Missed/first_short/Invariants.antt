-- With the cut ends so far the first processor that misses a segment is found.
use Rattle.std.proofs.Common.{take}
use Rattle.htl_segment.specs.Traces.{Trace}
use Rattle.htl_main.specs.CaseOutlines.{IsFirstShort, IsMissed}
use Rattle.htl_main.proofs.coverage.Missed.first_short.Given as goal

abbrev pub invariant-loop-cut : goal.invariant-loop-cut
invariant-loop-cut l = (T : Trace) → IsMissed T l.self → IsFirstShort T (take l.cut-index l.cuts) l.first
