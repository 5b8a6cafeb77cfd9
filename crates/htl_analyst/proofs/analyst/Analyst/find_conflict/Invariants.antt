-- No held segment so far has other content on the other side.
use Rattle.std.proofs.Common.{ℕ, ◌<◌, get_or}
use Rattle.htl_segment.specs.Content.{Content}
use Rattle.htl_analyst.specs.Refusals.{HoldsOther}
use Rattle.htl_analyst.proofs.analyst.Analyst.find_conflict.Given as goal

abbrev pub invariant-loop-segment : goal.invariant-loop-segment
invariant-loop-segment g l = (k : ℕ) (d : Content) → k < l.segment-index → HoldsOther l.self (get_or l.segment-items k d) → ⊥
