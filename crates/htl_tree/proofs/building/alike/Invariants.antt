-- The rows so far have the first one's stack.
use Rattle.std.proofs.Common.{◌≡◌, ◌<◌, ◌≤◌, ◌-◌, length, take, get_or}
use Rattle.std.specs.List.{AllByRecursion}
use Rattle.htl_tree.specs.declared.row.Row.{Row}
use Rattle.htl_tree.proofs.RowsOneMore.{no_row}
use Rattle.htl_tree.proofs.building.alike.Given as goal

abbrev pub invariant-loop-len : goal.invariant-loop-len
invariant-loop-len l = record {
  some : 0 < l.len;
  within : l.len ≤ length l.rows;
  alike : AllByRecursion (λ (row : Row). row.stack.now ≡ (get_or l.rows 0 no_row).stack.now) (take l.len l.rows);
}

abbrev pub decreases-loop-len : goal.decreases-loop-len
decreases-loop-len l = length l.rows - l.len
