-- It is the least of the last folded sequences so far.
use Rattle.std.proofs.Common.{ℕ}
use Rattle.htl_analyst.specs.States.{folded_at}
use Rattle.htl_analyst.proofs.Falling.{LeastOf}
use Rattle.htl_analyst.proofs.analyst.Analyst.complete_to.Given as goal

abbrev pub invariant-loop-processor : goal.invariant-loop-processor
invariant-loop-processor g l = LeastOf (λ (p : ℕ). (folded_at l.self.parts p).last_sequence) l.processor l.least
