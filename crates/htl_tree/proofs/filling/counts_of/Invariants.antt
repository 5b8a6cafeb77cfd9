-- The counts are those of the rows so far.
use Rattle.std.proofs.Common.{[], take}
use Rattle.htl_tree.specs.Rows.{Gained}
use Rattle.htl_tree.proofs.filling.counts_of.Given as goal

abbrev pub invariant-loop-row : goal.invariant-loop-row
invariant-loop-row g l = Gained (take l.row-index l.rows) [] l.counts.items
