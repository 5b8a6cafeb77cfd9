-- The parts so far are bounded.
use Rattle.std.proofs.Common.{ℕ, ◌<◌, map}
use Rattle.htl_analyst.specs.Restored.{fold_at, fold_of, IsBounded}
use Rattle.htl_analyst.proofs.restoring.check_parts.Given as goal

abbrev pub invariant-loop-processor : goal.invariant-loop-processor
invariant-loop-processor g l = (q : ℕ) → q < l.processor → IsBounded (fold_at (map fold_of l.parts) q)
