-- The groups so far were taken out of the tree.
use Rattle.std.proofs.Common.{take}
use Rattle.htl_tree.specs.Nodes.{tree_of, IsNormalRoot}
use Rattle.htl_tree.specs.Rows.{WithRows}
use Rattle.htl_tree.proofs.RowGroups.{rows_of}
use Rattle.htl_tree.proofs.removing.remove_groups.Given as goal

abbrev pub invariant-loop-group : goal.invariant-loop-group
invariant-loop-group g l = record {
  normal : IsNormalRoot l.root;
  counts : WithRows (tree_of l.fn.root) (tree_of l.root) (rows_of (take l.group-index l.groups));
}
