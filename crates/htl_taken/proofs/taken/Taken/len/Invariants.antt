-- The sum is that of the processors so far, and small.
use Rattle.std.proofs.Common.{◌≡◌, ◌≤◌, ◌*◌, map, take, sum_by}
use Rattle.htl_taken.specs.declared.TheConstants.{MAX_FRONT}
use Rattle.htl_taken.specs.Numbers.{size_of}
use Rattle.htl_taken.specs.NumberSets.{numbers_of}
use Rattle.htl_taken.proofs.taken.Taken.len.Given as goal

abbrev pub invariant-loop-numbers : goal.invariant-loop-numbers
invariant-loop-numbers g l = record {
  counted : l.len ≡ sum_by size_of (take l.numbers-index (map numbers_of l.numbers-items));
  fits : l.len ≤ l.numbers-index * MAX_FRONT;
}
