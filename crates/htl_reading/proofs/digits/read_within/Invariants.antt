-- The pairs are the digits of what was read so far, and each read gave bytes.
use Rattle.std.proofs.Common.{◌≡◌, ◌≤◌, ◌+◌, ◌*◌, length, false}
use Rattle.htl_device.specs.declared.source.TheConstants.{MIN_READ_LEN}
use Rattle.htl_reading.proofs.DigitsLaws.{IsKept}
use Rattle.htl_reading.proofs.digits.read_within.Given as goal

abbrev pub invariant-loop-read : goal.invariant-loop-read
invariant-loop-read g l = record {
  kept : IsKept (g.R.Source.state l.initial.source).remaining (g.R.Source.state l.source).remaining l.start
      l.pairs.bytes l.pairs.high;
  fine : (g.R.Source.state l.source).failed ≡ false;
  inside : (g.R.Source.state l.source).ended ≡ false;
  each : l._read ≤ l.start;
  few : l.start ≤ l._read * MIN_READ_LEN;
  counted : l._read ≤ (g.R.Source.state l.source).good_reads;
  bounded : (g.R.Source.state l.source).good_reads ≤ (g.R.Source.state l.initial.source).good_reads + l._read;
  tails : (g.R.Source.state l.source).tails ≡ (g.R.Source.state l.initial.source).tails;
  whole : length l.buffer ≡ MIN_READ_LEN;
}
