-- The rows so far have their stacks.
use Rattle.std.proofs.Common.{◌≡◌, map, take}
use Rattle.htl_saved.specs.Restored.{listed}
use Rattle.htl_saved.proofs.from_rows.counts_of_rows.Given as goal

abbrev pub invariant-loop-row : goal.invariant-loop-row
invariant-loop-row l = l.counts.items ≡ map (listed l.table) (take l.row-index l.rows)
