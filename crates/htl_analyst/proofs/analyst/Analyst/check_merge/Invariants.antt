-- No processor so far has two contents of one number.
use Rattle.std.proofs.Common.{ℕ, ◌<◌}
use Rattle.htl_analyst.specs.Refusals.{HoldTwo}
use Rattle.htl_analyst.proofs.analyst.Analyst.check_merge.Given as goal

abbrev pub invariant-loop-processor : goal.invariant-loop-processor
invariant-loop-processor g l = (p n : ℕ) → p < l.processor → HoldTwo l.self l.other p n → ⊥
