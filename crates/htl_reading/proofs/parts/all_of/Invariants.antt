-- The keepers so far are those that the parts gave.
use Rattle.std.proofs.Common.{◌≡◌, Some, map}
use Rattle.htl_reading.proofs.parts.all_of.Given as goal

abbrev pub invariant-loop-keeper : goal.invariant-loop-keeper
invariant-loop-keeper g l = map (λ keeper. Some keeper) l.keepers.items ≡ l.yielded
