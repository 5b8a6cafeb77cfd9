-- The rows so far are in groups of one stack each, and the others are left.
use Rattle.std.proofs.Common.{◌≡◌, ◌≤◌, ◌-◌, List, length, take}
use Rattle.std.specs.Borrow.{Bor}
use Rattle.std.specs.List.{AllByRecursion}
use Rattle.htl_tree.specs.declared.row.Row.{Row}
use Rattle.htl_tree.specs.Rows.{IsGroup}
use Rattle.htl_tree.proofs.RowGroups.{rows_of}
use Rattle.htl_tree.proofs.building.groups_of.Given as goal

abbrev pub invariant-loop-start : goal.invariant-loop-start
invariant-loop-start g l = record {
  within : l.start ≤ length l.rows;
  rows : rows_of l.groups.items ≡ take l.start l.rows;
  groups : AllByRecursion (λ (group : Bor (List Row)). IsGroup group.now) l.groups.items;
}

abbrev pub decreases-loop-start : goal.decreases-loop-start
decreases-loop-start g l = length l.rows - l.start
