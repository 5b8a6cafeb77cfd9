-- The segments of the processors so far went out.
use Rattle.std.proofs.Common.{◌≡◌, false}
use Rattle.make_samples.specs.Writing.{WritesKeys, turn}
use Rattle.make_samples.proofs.writing.write_turn.Given as goal

abbrev pub invariant-loop-processor : goal.invariant-loop-processor
invariant-loop-processor g l = record {
  written : WritesKeys l.trace (turn l.processor l.number) (g.W.Sink.state l.initial.out).contents (g.W.Sink.state l.out).contents;
  fine : (g.W.Sink.state l.out).failed ≡ false;
}
