-- Each segment that was made is of the trace.
use Rattle.std.proofs.Common.{All}
use Rattle.htl_samples.specs.Samples.{IsOfTrace}
use Rattle.htl_samples.proofs.trace.Trace.segments.Given as goal

abbrev pub invariant-loop-line : goal.invariant-loop-line
invariant-loop-line l = All (IsOfTrace l.self) l.segments.items
