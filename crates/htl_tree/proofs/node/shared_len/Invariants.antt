-- So far all frames are those that the stack begins with.
use Rattle.std.proofs.Common.{length, ◌-◌, ◌≡◌, ◌≤◌, ◌++◌, take, reverse}
use Rattle.htl_tree.proofs.node.shared_len.Given as goal

abbrev pub invariant-loop-len : goal.invariant-loop-len
invariant-loop-len l = record {
  within : l.len ≤ length l.frames;
  stack : l.len ≤ length l.stack;
  shared : reverse l.stack ≡ take l.len l.frames ++ reverse (take (length l.stack - l.len) l.stack);
}

abbrev pub decreases-loop-len : goal.decreases-loop-len
decreases-loop-len l = length l.frames - l.len
