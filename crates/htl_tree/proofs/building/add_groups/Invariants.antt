-- The root counts the groups so far too.
use Rattle.std.proofs.Common.{take}
use Rattle.htl_tree.specs.Nodes.{tree_of, IsNormalRoot}
use Rattle.htl_tree.specs.Rows.{WithRows}
use Rattle.htl_tree.proofs.RowGroups.{rows_of}
use Rattle.htl_tree.proofs.building.add_groups.Given as goal

abbrev pub invariant-loop-place : goal.invariant-loop-place
invariant-loop-place g l = record {
  normal : IsNormalRoot l.root;
  counts : WithRows (tree_of l.root) (tree_of l.fn.root) (rows_of (take l.place l.groups));
}
