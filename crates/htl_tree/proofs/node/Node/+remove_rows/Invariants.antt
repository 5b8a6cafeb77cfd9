-- Each call of `remove_rows` has a shorter rest of the stack, so the calls end.
use Rattle.std.proofs.Common.{length}
use Rattle.htl_tree.proofs.node.Node.+remove_rows.Given as goal

abbrev pub decreases-remove_rows : goal.decreases-remove_rows
decreases-remove_rows g l = length l.stack.now
