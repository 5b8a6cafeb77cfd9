-- Each call of `at` has a stack one frame shorter, so the calls end.
use Rattle.std.proofs.Common.{length}
use Rattle.htl_tree.proofs.cursor.Cursor.+at.Given as goal

abbrev pub decreases-at : goal.decreases-at
decreases-at g l = length l.stack.now
