-- Each call of `add` has a shorter rest of the stack, so the calls end.
use Rattle.std.proofs.Common.{length}
use Rattle.htl_tree.proofs.node.Node.+add.Given as goal

abbrev pub decreases-add : goal.decreases-add
decreases-add g l = length l.stack.now
