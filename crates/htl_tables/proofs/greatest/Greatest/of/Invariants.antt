-- The table has the greatest sequence of each process among the moments so far.
use Rattle.std.proofs.Common.{ℕ, take}
use Rattle.htl_tables.specs.Greatest.{sequence_at}
use Rattle.htl_tables.proofs.Moments.{IsGreatestIn}
use Rattle.htl_tables.proofs.greatest.Greatest.of.Given as goal

abbrev pub invariant-loop-process : goal.invariant-loop-process
invariant-loop-process g l = (process : ℕ) → IsGreatestIn (take l.process-index l.process-items) process (sequence_at l.greatest process)
