-- Each call of `whole_tree` has half as many parts, so the calls end.
use Rattle.std.proofs.Common.{length}
use Rattle.htl_answers.proofs.whole.+whole_tree.Given as goal

abbrev pub decreases-whole_tree : goal.decreases-whole_tree
decreases-whole_tree g l = length l.parts.now
