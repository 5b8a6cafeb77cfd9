-- The processors so far have all numbers below their fronts.
use Rattle.std.proofs.Common.{◌≡◌, map, take}
use Rattle.htl_taken.specs.Numbers.{all_below}
use Rattle.htl_taken.specs.NumberSets.{numbers_of}
use Rattle.htl_taken.proofs.taken.Taken.of_fronts.Given as goal

abbrev pub invariant-loop-front : goal.invariant-loop-front
invariant-loop-front g l = map numbers_of l.sets.items ≡ map all_below (take l.front-index l.fronts)
