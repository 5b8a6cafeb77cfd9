-- The sites so far are those of the runs that were passed, and what is left has other stacks.
use Rattle.std.specs.Slice.Iter.{chunk_by_rest}
use Rattle.htl_summary.specs.Openers.{HavePassed}
use Rattle.htl_summary.proofs.by_stack.sites_of.Given as goal

abbrev pub invariant-loop-run : goal.invariant-loop-run
invariant-loop-run l =
    goal.iterator-loop-run.can_next l.run-iterator × goal.iterator-loop-run.is_finite l.run-iterator
    × HavePassed l.openers (chunk_by_rest l.run-iterator) l.at_least l.sites.items
