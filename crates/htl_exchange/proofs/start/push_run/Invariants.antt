-- The processor's segments among those that were looked at are in the run.
use Rattle.std.proofs.Common.{◌≡◌, ◌++◌, take}
use Rattle.std.specs.Prelude.{filter}
use Rattle.htl_exchange.specs.Runs.{is_of}
use Rattle.htl_exchange.proofs.start.push_run.Given as goal

abbrev pub invariant-loop-segment : goal.invariant-loop-segment
invariant-loop-segment l = l.run.items ≡ l.initial.run.items ++ filter (is_of l.processor) (take l.segment-index l.segments)
