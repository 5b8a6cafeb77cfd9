-- The stacks of the counts so far are added.
use Rattle.std.proofs.Common.{◌≡◌, ◌++◌, map, take}
use Rattle.htl_saved.proofs.Tallies.{Listed}
use Rattle.htl_saved.proofs.stacks.push_counted.Given as goal

abbrev pub invariant-loop-stack : goal.invariant-loop-stack
invariant-loop-stack l = l.stacks.items ≡ l.initial.stacks.items ++ map (λ (row : Listed). row.0.1) (take l.stack-index l.counts)
