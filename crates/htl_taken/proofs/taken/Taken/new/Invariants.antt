-- There are as many processors as were passed, each with no numbers.
use Rattle.std.proofs.Common.{◌≡◌, map, replicate}
use Rattle.htl_taken.specs.Numbers.{no_numbers}
use Rattle.htl_taken.specs.NumberSets.{numbers_of}
use Rattle.htl_taken.proofs.taken.Taken.new.Given as goal

abbrev pub invariant-loop : goal.invariant-loop
invariant-loop g l = map numbers_of l.sets.items ≡ replicate l.counter no_numbers
