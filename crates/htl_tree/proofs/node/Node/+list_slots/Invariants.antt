-- The slots of the children so far are listed.
use Rattle.std.proofs.Common.{◌≡◌, ◌++◌, drop}
use Rattle.htl_tree.specs.Nodes.{inside, children, rows, height, slots_of}
use Rattle.htl_tree.proofs.NodeRows.{child_rows}
use Rattle.htl_tree.proofs.node.Node.+list_slots.Given as goal

abbrev pub decreases-list_slots : goal.decreases-list_slots
decreases-list_slots g l = height (inside l.self.now)

abbrev pub invariant-loop-child : goal.invariant-loop-child
invariant-loop-child g l = l.into.items ++ slots_of (child_rows (drop l.child-index (children (inside l.self))))
    ≡ l.fn.into.items ++ slots_of (rows (inside l.self))
