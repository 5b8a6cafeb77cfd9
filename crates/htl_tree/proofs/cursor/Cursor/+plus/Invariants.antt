-- The children so far are sums or copies of both sides.
use Rattle.std.proofs.Common.{◌+◌, ◌-◌, length}
use Rattle.std.specs.Ordering.{nat_cmp}
use Rattle.htl_sorted.proofs.SideBySide.{Carries}
use Rattle.htl_tree.specs.Nodes.{position_of, tops, children, height}
use Rattle.htl_tree.proofs.CopiesAndSums.{SumOf}
use Rattle.htl_tree.proofs.cursor.Cursor.+plus.Given as goal

abbrev pub decreases-plus : goal.decreases-plus
decreases-plus g l = height (position_of l.self.now)

abbrev pub invariant-loop-i : goal.invariant-loop-i
invariant-loop-i g l =
    Carries nat_cmp (λ sides sum. SumOf sides sum) (children (position_of l.left)) (children (position_of l.right)) l.i l.j (tops l.children.items)

abbrev pub decreases-loop-i : goal.decreases-loop-i
decreases-loop-i g l = (length (children (position_of l.left)) - l.i) + (length (children (position_of l.right)) - l.j)
