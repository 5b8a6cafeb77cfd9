-- The newer rows that were counted and those that are missing among the rows left are all.
use Rattle.std.proofs.Common.{◌≡◌, ◌+◌, length}
use Rattle.htl_tables.specs.Placing.{missing}
use Rattle.htl_tables.proofs.SortedRows.{Sorted}
use Rattle.htl_tables.proofs.placing.missing.Given as goal

abbrev pub invariant-loop-row : goal.invariant-loop-row
invariant-loop-row l = (l.count + missing l.older_left l.newer_left ≡ missing l.older l.newer) × Sorted l.older_left × Sorted l.newer_left

abbrev pub decreases-loop-row : goal.decreases-loop-row
decreases-loop-row l = length l.older_left + length l.newer_left
