-- The digits before the rest were written.
use Rattle.std.proofs.Common.{◌≡◌, length, false}
use Rattle.htl_convert.proofs.EncodeLaws.{DigitsWritten}
use Rattle.htl_convert.proofs.encoding.write_digits.Given as goal

abbrev pub invariant-loop-rest : goal.invariant-loop-rest
invariant-loop-rest g l = record {
  written : DigitsWritten l.bytes l.rest (g.W.Sink.state l.initial.out).contents (g.W.Sink.state l.out).contents;
  fine : (g.W.Sink.state l.out).failed ≡ false;
}

abbrev pub decreases-loop-rest : goal.decreases-loop-rest
decreases-loop-rest g l = length l.rest
