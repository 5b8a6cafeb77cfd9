-- Sequences rise over the segments that were gone through, up to the highest of the last processor.
use Rattle.htl_case.proofs.Scanned.{AreScannedTo}
use Rattle.htl_case.proofs.rising.falling.Given as goal

abbrev pub invariant-loop-outline : goal.invariant-loop-outline
invariant-loop-outline l = AreScannedTo l.outlines l.outline-index l.processor l.highest
