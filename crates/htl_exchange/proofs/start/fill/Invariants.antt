-- The runs below the processor are in the queue.
use Rattle.crossbeam_queue.specs.Passes.{IsSamePass}
use Rattle.htl_exchange.specs.Moves.{known_of}
use Rattle.htl_exchange.specs.Filling.{FillsTo}
use Rattle.htl_exchange.proofs.start.fill.Given as goal

abbrev pub invariant-loop-processor : goal.invariant-loop-processor
invariant-loop-processor g l = IsSamePass l.initial.pass l.pass × FillsTo l.case l.processor (known_of l.pass)
