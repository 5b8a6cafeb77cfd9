-- Each call of `under` has a path one frame shorter, so the calls end.
use Rattle.std.proofs.Common.{length}
use Rattle.htl_tree.proofs.cursor.Cursor.+under.Given as goal

abbrev pub decreases-under : goal.decreases-under
decreases-under g l = length l.path.now
