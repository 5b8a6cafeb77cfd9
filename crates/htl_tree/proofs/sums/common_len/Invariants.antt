-- So far the frames of both sides are the same.
use Rattle.std.proofs.Common.{length, ◌-◌, ◌≡◌, ◌≤◌, take}
use Rattle.htl_tree.proofs.sums.common_len.Given as goal

abbrev pub invariant-loop-len : goal.invariant-loop-len
invariant-loop-len l = (l.len ≤ length l.left) × (l.len ≤ length l.right) × (take l.len l.left ≡ take l.len l.right)

abbrev pub decreases-loop-len : goal.decreases-loop-len
decreases-loop-len l = length l.left - l.len
