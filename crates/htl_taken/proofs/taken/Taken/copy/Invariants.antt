-- The processors so far are copied.
use Rattle.std.proofs.Common.{◌≡◌, map, take}
use Rattle.htl_taken.specs.NumberSets.{numbers_of}
use Rattle.htl_taken.proofs.taken.Taken.copy.Given as goal

abbrev pub invariant-loop-numbers : goal.invariant-loop-numbers
invariant-loop-numbers g l = map numbers_of l.sets.items ≡ map numbers_of (take l.numbers-index l.numbers-items)
