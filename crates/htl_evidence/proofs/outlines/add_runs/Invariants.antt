-- The runs before the segments so far are added, and those of what is left follow.
use Rattle.std.proofs.Common.{◌≡◌, ◌++◌, drop}
use Rattle.htl_taken.specs.GapLists.{gaps_from}
use Rattle.htl_evidence.specs.Outlines.{numbers_of}
use Rattle.htl_evidence.proofs.outlines.add_runs.Given as goal

abbrev pub invariant-loop-outline : goal.invariant-loop-outline
invariant-loop-outline l = l.gaps.items ++ gaps_from l.processor l.next (numbers_of (drop l.outline-index l.outlines))
    ≡ l.fn.gaps.items ++ gaps_from l.processor 0 (numbers_of l.outlines)
