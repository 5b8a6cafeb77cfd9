-- The runs of the processors so far are folded.
use Rattle.htl_analyst.proofs.Compacts.{AreCompacted}
use Rattle.htl_analyst.proofs.analyst.Analyst.compact.Given as goal

abbrev pub invariant-loop-processor : goal.invariant-loop-processor
invariant-loop-processor g l = AreCompacted l.initial.self l.self l.processor
