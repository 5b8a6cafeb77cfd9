-- What was read so far and what is left are what the source had; each read gave bytes.
use Rattle.std.proofs.Common.{◌≡◌, ◌≤◌, ◌+◌, ℕ, List, Option, length, false}
use Rattle.std.specs.Io.KnownBytes.{Consumes}
use Rattle.htl_device.specs.declared.source.TheConstants.{MAX_READ_LEN}
use Rattle.htl_device.proofs.whole.read_on.Given as goal

abbrev pub invariant-loop-read : goal.invariant-loop-read
invariant-loop-read g l = record {
  given : (given : Option (List ℕ)) → Consumes given (g.R.Source.state l.fn.source).remaining l.fn.bytes.items
      → Consumes given (g.R.Source.state l.source).remaining l.bytes.items;
  fine : (g.R.Source.state l.source).failed ≡ false;
  inside : (g.R.Source.state l.source).ended ≡ false;
  each : l._read ≤ length l.bytes.items;
  counted : l._read ≤ (g.R.Source.state l.source).good_reads;
  bounded : (g.R.Source.state l.source).good_reads + 1 ≤ (g.R.Source.state l.fn.source).good_reads + l._read;
  tails : (g.R.Source.state l.source).tails ≡ (g.R.Source.state l.fn.source).tails;
  whole : length l.buffer ≡ MAX_READ_LEN;
}
