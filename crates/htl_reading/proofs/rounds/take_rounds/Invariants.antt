-- The source skips the rounds so far, which are few enough for one more, and the spare keepers have no segment. Each round was a long one,
-- and asked for no more other readers than a round may.
use Rattle.std.proofs.Common.{◌≡◌, ◌≤◌, ◌<◌, ◌+◌, ◌*◌, ◌^◌}
use Rattle.htl_event.specs.declared.memory.NoMemory.{NoMemory}
use Rattle.htl_reading.proofs.SkipLaws.{skipped}
use Rattle.htl_reading.specs.Parts.{AreEmpty, Skips}
use Rattle.htl_reading.specs.declared.ends.TheConstants.{MIN_PART_LEN}
use Rattle.htl_reading.proofs.rounds.take_rounds.Given as goal

abbrev pub invariant-loop-round : goal.invariant-loop-round
invariant-loop-round g l = record {
  skips : Skips {E = NoMemory} g.K.Keeper.gathers (g.R.Source.state l.fn.source) (g.R.Source.state l.source) l.fn.keeper l.keeper 0 (skipped l.offset);
  few : l.offset ≤ 2 ^ 61;
  spare : AreEmpty l.spare.items;
  alone : l.workers < 2 → (g.R.Source.state l.source).tails ≡ (g.R.Source.state l.fn.source).tails;
  asked : (g.R.Source.state l.source).tails ≤ (g.R.Source.state l.fn.source).tails + l._round * (3 * l.workers);
  far : l._round * MIN_PART_LEN ≤ l.offset;
}
