-- The runs of the processors that were asked are counted, and there are no more of them than processors.
use Rattle.std.proofs.Common.{◌≡◌, ◌≤◌}
use Rattle.htl_exchange.specs.Runs.{runs_of}
use Rattle.htl_exchange.specs.Filling.{runs_below}
use Rattle.htl_exchange.proofs.start.run_count.Given as goal

abbrev pub invariant-loop-processor : goal.invariant-loop-processor
invariant-loop-processor l = (l.runs ≡ runs_below (runs_of l.case.segments) l.processor) × (l.runs ≤ l.processor)
