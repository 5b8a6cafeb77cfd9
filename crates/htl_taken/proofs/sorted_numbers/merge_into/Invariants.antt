-- What was put and the merge of what is left are the whole merge, and less is left.
use Rattle.std.proofs.Common.{◌≡◌, ◌+◌, ◌++◌, length}
use Rattle.htl_taken.specs.Merging.{merged}
use Rattle.htl_taken.proofs.sorted_numbers.merge_into.Given as goal

abbrev pub invariant-loop-l : goal.invariant-loop-l
invariant-loop-l g l = l.target.items ++ merged l.left l.right ≡ l.initial.target.items ++ merged l.one l.other

abbrev pub decreases-loop-l : goal.decreases-loop-l
decreases-loop-l g l = length l.left + length l.right
