-- The positions so far count the same.
use Rattle.std.proofs.Common.{ℕ, ◌<◌, get_or}
use Rattle.htl_tree.specs.Nodes.{Position, position_of, children, height}
use Rattle.htl_tree.proofs.Canonical.{SameChild}
use Rattle.htl_tree.proofs.cursor.Cursor.+same.Given as goal

abbrev pub decreases-same : goal.decreases-same
decreases-same g l = height (position_of l.self.now)

abbrev pub invariant-loop-i : goal.invariant-loop-i
invariant-loop-i g l = (k : ℕ) (d c : ℕ × Position g.row.A.Denot) → k < l.i
    → SameChild (get_or (children (position_of l.self)) k d) (get_or (children (position_of l.other)) k c)
