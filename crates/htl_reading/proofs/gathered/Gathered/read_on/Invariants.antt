-- The segments of all reads so far were taken, and the block holds the bytes after them.
use Rattle.std.proofs.Common.{◌≡◌, ◌≤◌, ◌+◌, ◌*◌, ℕ, List, Option, length, false}
use Rattle.htl_device.specs.declared.source.TheConstants.{MAX_READ_LEN}
use Rattle.htl_reading.specs.Keepers.{IsTakenTo}
use Rattle.htl_reading.proofs.gathered.Gathered.read_on.Given as goal

abbrev pub invariant-loop-reads : goal.invariant-loop-reads
invariant-loop-reads g l = record {
  taken : (start : _) (given : Option (List ℕ))
      → IsTakenTo g.K.Keeper.gathers start l.fn.keeper given (g.R.Source.state l.fn.source).remaining l.fn.self.block.held
      l.fn.self.offset 1
      → IsTakenTo g.K.Keeper.gathers start l.keeper given (g.R.Source.state l.source).remaining l.self.block.held l.self.offset
      l._reads;
  fine : (g.R.Source.state l.source).failed ≡ false;
  inside : (g.R.Source.state l.source).ended ≡ false;
  short : l.self.offset + length l.self.block.held ≤ l.fn.self.offset + length l.fn.self.block.held + l._reads * MAX_READ_LEN;
  tails : (g.R.Source.state l.source).tails ≡ (g.R.Source.state l.fn.source).tails;
  counted : l._reads ≤ (g.R.Source.state l.source).good_reads;
  bounded : (g.R.Source.state l.source).good_reads + 1 ≤ (g.R.Source.state l.fn.source).good_reads + l._reads;
}
