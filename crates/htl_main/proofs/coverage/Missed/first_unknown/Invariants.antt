-- Of the cut ends so far it is known which segment each is of.
use Rattle.std.proofs.Common.{All, take}
use Rattle.htl_segment.specs.Traces.{Trace}
use Rattle.htl_main.specs.CaseOutlines.{IsMissed}
use Rattle.htl_main.specs.Completeness.{IsKnown}
use Rattle.htl_main.proofs.coverage.Missed.first_unknown.Given as goal

abbrev pub invariant-loop-cut : goal.invariant-loop-cut
invariant-loop-cut l = (T : Trace) → IsMissed T l.self → All (IsKnown T) (take l.cut-index l.cuts)
