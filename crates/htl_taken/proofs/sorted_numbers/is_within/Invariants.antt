-- Whether the one list is in the other is whether what is left of the one is in what is left of the other.
use Rattle.std.proofs.Common.{drop}
use Rattle.htl_taken.specs.declared.TheConstants.{MAX_FRONT}
use Rattle.htl_taken.proofs.Within.{Decide}
use Rattle.htl_taken.proofs.sorted_numbers.is_within.Given as goal

abbrev pub invariant-loop-number : goal.invariant-loop-number
invariant-loop-number l = Decide MAX_FRONT l.numbers l.all l.left (drop l.number-index l.all)
