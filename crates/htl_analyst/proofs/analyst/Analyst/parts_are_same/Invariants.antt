-- The processors so far are the same on both sides.
use Rattle.std.proofs.Common.{ℕ, ◌<◌}
use Rattle.htl_analyst.specs.States.{part_at}
use Rattle.htl_analyst.specs.Same.{IsSamePart}
use Rattle.htl_analyst.proofs.analyst.Analyst.parts_are_same.Given as goal

abbrev pub invariant-loop-processor : goal.invariant-loop-processor
invariant-loop-processor g l = (p : ℕ) → p < l.processor → IsSamePart (part_at l.self.parts p) (part_at l.other.parts p)
