-- The fronts of the processors so far are moved.
use Rattle.htl_analyst.proofs.Workers.{AreMoved}
use Rattle.htl_analyst.proofs.compacting.move_fronts.Given as goal

abbrev pub invariant-loop-processor : goal.invariant-loop-processor
invariant-loop-processor l = AreMoved l.initial.taken l.taken l.parts l.processor
