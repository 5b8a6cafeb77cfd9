-- Positions get lower, and the children so far are copied.
use Rattle.std.proofs.Common.{◌+◌, ◌*◌, ◌-◌, take, drop}
use Rattle.htl_tree.specs.Nodes.{AppendsCopies, position_of, tops, children, height, heights}
use Rattle.htl_tree.proofs.+copying.Given as goal

abbrev pub decreases-cursor::Cursor::copy : goal.decreases-cursor::Cursor::copy
decreases-cursor::Cursor::copy g l = 2 * height (position_of l.self.now)

abbrev pub decreases-sums::copy_children : goal.decreases-sums::copy_children
decreases-sums::copy_children g l = 2 * heights (children (position_of l.from.now)) + 1

abbrev pub invariant-sums::copy_children-loop-index : goal.invariant-sums::copy_children-loop-index
invariant-sums::copy_children-loop-index g l =
    AppendsCopies (take (l.index - l.start) (drop l.start (children (position_of l.from)))) (tops l.initial.into.items) (tops l.into.items)
