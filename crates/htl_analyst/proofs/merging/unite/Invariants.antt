-- The processors so far have what the greater front has folded.
use Rattle.htl_analyst.proofs.United.{AreUnitedTo}
use Rattle.htl_analyst.proofs.merging.unite.Given as goal

abbrev pub invariant-loop-processor : goal.invariant-loop-processor
invariant-loop-processor g l =
    AreUnitedTo l.own_taken l.their_taken l.initial.own.items l.initial.theirs.items l.initial.incoming.items l.own.items l.theirs.items
    l.incoming.items l.processor
