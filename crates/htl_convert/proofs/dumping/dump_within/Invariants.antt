-- What the source gave so far was dumped, but for what is held; each read gave some.
use Rattle.std.proofs.Common.{◌≡◌, ◌≤◌, ◌+◌, ◌*◌, length, false}
use Rattle.htl_device.specs.declared.source.TheConstants.{MAX_READ_LEN, MIN_READ_LEN}
use Rattle.htl_convert.specs.Dumping.{DumpedSoFar}
use Rattle.htl_convert.proofs.dumping.dump_within.Given as goal

abbrev pub invariant-loop-read : goal.invariant-loop-read
invariant-loop-read g l = record {
  so_far : DumpedSoFar (g.R.Source.state l.initial.source).remaining (g.R.Source.state l.source).remaining l.start l.held.items
      (g.W.Sink.state l.initial.out).contents (g.W.Sink.state l.out).contents;
  fine : (g.R.Source.state l.source).failed ≡ false;
  sound : (g.W.Sink.state l.out).failed ≡ false;
  each : l._read ≤ l.start + length l.held.items;
  counted : l._read ≤ (g.R.Source.state l.source).good_reads;
  reads : (g.R.Source.state l.source).good_reads ≤ (g.R.Source.state l.initial.source).good_reads + l._read;
  tails : (g.R.Source.state l.source).tails ≡ (g.R.Source.state l.initial.source).tails;
  bounded : l.start + length l.held.items ≤ l._read * MAX_READ_LEN;
  inside : (g.R.Source.state l.source).ended ≡ false;
  whole : length l.buffer ≡ MIN_READ_LEN;
}
