-- Each call of `add_rows` has a shorter rest of the stack, so the calls end.
use Rattle.std.proofs.Common.{length}
use Rattle.htl_tree.proofs.node.Node.+add_rows.Given as goal

abbrev pub decreases-add_rows : goal.decreases-add_rows
decreases-add_rows g l = length l.stack.now
