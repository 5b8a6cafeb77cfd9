-- All numbers up to here are in the list, and the reach is that of what is left.
use Rattle.std.proofs.Common.{◌≡◌, ◌+◌, drop}
use Rattle.htl_taken.specs.declared.TheConstants.{MAX_FRONT}
use Rattle.htl_taken.specs.Rising.{Rises, reach_from}
use Rattle.htl_taken.proofs.sorted_numbers.reach_over.Given as goal

abbrev pub invariant-loop-number : goal.invariant-loop-number
invariant-loop-number l = record {
  counted : l.reach ≡ l.start + l.number-index;
  rises : Rises l.reach MAX_FRONT (drop l.number-index l.numbers);
  reach : reach_from l.reach (drop l.number-index l.numbers) ≡ reach_from l.start l.numbers;
}
