-- The counts lost the rows so far.
use Rattle.std.proofs.Common.{take}
use Rattle.htl_tree.specs.Removed.{Lost}
use Rattle.htl_tree.proofs.removing.remove_from_counts.Given as goal

abbrev pub invariant-loop-row : goal.invariant-loop-row
invariant-loop-row g l = Lost (take l.row-index l.rows) l.fn.counts.items l.counts.items
