-- The text up to the place that the writes came to went out.
use Rattle.std.proofs.Common.{◌≡◌, ◌≤◌, ◌-◌, length, take, false}
use Rattle.std.specs.Io.KnownBytes.{Appends}
use Rattle.htl_device.proofs.whole.write_whole.Given as goal

abbrev pub invariant-loop-sent : goal.invariant-loop-sent
invariant-loop-sent g l = record {
  within : l.sent ≤ length l.text;
  went : Appends (g.W.Sink.state l.initial.out).contents (g.W.Sink.state l.out).contents (take l.sent l.text);
  fine : (g.W.Sink.state l.out).failed ≡ false;
}

abbrev pub decreases-loop-sent : goal.decreases-loop-sent
decreases-loop-sent g l = length l.text - l.sent
