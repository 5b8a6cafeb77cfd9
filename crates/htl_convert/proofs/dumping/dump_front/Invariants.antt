-- The segments before the rest were dumped, and less is left in each turn.
use Rattle.std.proofs.Common.{◌≡◌, length, false}
use Rattle.htl_convert.specs.Dumping.{FrontDumped}
use Rattle.htl_convert.proofs.dumping.dump_front.Given as goal

abbrev pub invariant-loop-segment : goal.invariant-loop-segment
invariant-loop-segment g l = record {
  dumped : FrontDumped l.bytes l.rest (g.W.Sink.state l.initial.out).contents (g.W.Sink.state l.out).contents;
  fine : (g.W.Sink.state l.out).failed ≡ false;
}

abbrev pub decreases-loop-segment : goal.decreases-loop-segment
decreases-loop-segment g l = length l.rest
