-- The greatest so far, together with the last sequences of what is left, has the greatest of all.
use Rattle.std.proofs.Common.{◌≡◌, drop}
use Rattle.htl_evidence.specs.Outlines.{greatest_from}
use Rattle.htl_evidence.proofs.outlines.greatest_last.Given as goal

abbrev pub invariant-loop-outline : goal.invariant-loop-outline
invariant-loop-outline l = greatest_from l.greatest (drop l.outline-index l.outlines) ≡ greatest_from 0 l.outlines
