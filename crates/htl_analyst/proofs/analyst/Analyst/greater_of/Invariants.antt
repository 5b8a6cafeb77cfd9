-- The parts so far hold what the other folded further.
use Rattle.htl_analyst.specs.StepParts.{AreGreaterOf}
use Rattle.htl_analyst.proofs.analyst.Analyst.greater_of.Given as goal

abbrev pub invariant-loop-processor : goal.invariant-loop-processor
invariant-loop-processor g l = AreGreaterOf l.self l.other l.parts.items l.processor
