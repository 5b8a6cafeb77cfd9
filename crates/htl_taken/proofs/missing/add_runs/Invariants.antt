-- The missing runs before the numbers so far are added, and those of what is left follow.
use Rattle.std.proofs.Common.{◌≡◌, ◌++◌, drop}
use Rattle.htl_taken.specs.declared.TheConstants.{MAX_FRONT}
use Rattle.htl_taken.specs.Rising.{Rises}
use Rattle.htl_taken.specs.GapLists.{gaps_from}
use Rattle.htl_taken.proofs.missing.add_runs.Given as goal

abbrev pub invariant-loop-number : goal.invariant-loop-number
invariant-loop-number l = record {
  rises : Rises l.least MAX_FRONT (drop l.number-index l.loose);
  listed : l.gaps.items ++ gaps_from l.processor l.least (drop l.number-index l.loose)
      ≡ l.fn.gaps.items ++ gaps_from l.processor l.front l.loose;
}
