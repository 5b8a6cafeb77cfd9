-- The counts of the children so far are listed.
use Rattle.std.proofs.Common.{◌≡◌, ◌++◌, drop}
use Rattle.htl_tree.specs.Nodes.{inside, children, rows, height, asked_of, counts_in}
use Rattle.htl_tree.proofs.NodeRows.{child_rows}
use Rattle.htl_tree.proofs.node.Node.+list_counts.Given as goal

abbrev pub decreases-list_counts : goal.decreases-list_counts
decreases-list_counts g l = height (inside l.self.now)

abbrev pub invariant-loop-child : goal.invariant-loop-child
invariant-loop-child g l = l.into.items ++ asked_of l.slots (counts_in (child_rows (drop l.child-index (children (inside l.self)))))
    ≡ l.fn.into.items ++ asked_of l.slots (counts_in (rows (inside l.self)))
