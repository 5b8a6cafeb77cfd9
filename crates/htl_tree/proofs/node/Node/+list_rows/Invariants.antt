-- The rows of the children so far are listed, and the path leads to the node.
use Rattle.std.proofs.Common.{◌≡◌, ◌++◌, drop}
use Rattle.htl_tree.specs.HasSlot.{has_slot}
use Rattle.htl_tree.specs.Nodes.{top, inside, frames, children, rows, height, rows_at}
use Rattle.htl_tree.proofs.NodeRows.{child_rows}
use Rattle.htl_tree.proofs.node.Node.+list_rows.Given as goal

abbrev pub decreases-list_rows : goal.decreases-list_rows
decreases-list_rows g l = height (top l.self.now)

abbrev pub invariant-loop-frame : goal.invariant-loop-frame
invariant-loop-frame g l = record {
  path : l.path.items ≡ l.fn.path.items ++ frames l.self;
  listed : l.into.items
      ++ rows_at (has_slot l.slots) (l.fn.path.items ++ frames l.self) (child_rows (drop l.frame-index (children (inside l.self))))
      ≡ l.fn.into.items ++ rows_at (has_slot l.slots) l.fn.path.items (rows (top l.self));
}
