-- The parts so far hold the segments of the loose numbers of both.
use Rattle.htl_analyst.specs.StepParts.{AreHeldOfBoth}
use Rattle.htl_analyst.proofs.analyst.Analyst.held_of_both.Given as goal

abbrev pub invariant-loop-processor : goal.invariant-loop-processor
invariant-loop-processor g l = AreHeldOfBoth l.self l.other l.taken l.parts.items l.processor
