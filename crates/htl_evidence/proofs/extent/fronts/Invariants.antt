-- The fronts of the processors so far are listed.
use Rattle.htl_evidence.specs.Outlines.{AreFrontsOf}
use Rattle.htl_evidence.proofs.extent.fronts.Given as goal

abbrev pub invariant-loop-processor : goal.invariant-loop-processor
invariant-loop-processor l = AreFrontsOf l.analyst l.processor l.fronts.items
