-- The children so far and those that are left add up to the sum.
use Rattle.std.proofs.Common.{◌≡◌, [], drop}
use Rattle.htl_event.specs.Tallies.{plus_count}
use Rattle.htl_tree.specs.Nodes.{inside, children, height, sum_under}
use Rattle.htl_tree.proofs.Under.{child_sum}
use Rattle.htl_tree.proofs.node.Node.+sum.Given as goal

abbrev pub decreases-sum : goal.decreases-sum
decreases-sum g l = height (inside l.self.now)

abbrev pub invariant-loop-child : goal.invariant-loop-child
invariant-loop-child g l = plus_count l.sum (child_sum l.slot (drop l.child-index (children (inside l.self)))) ≡ sum_under [] l.slot (inside l.self)
