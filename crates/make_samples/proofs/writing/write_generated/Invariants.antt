-- The segments of the turns so far went out.
use Rattle.std.proofs.Common.{◌≡◌, false}
use Rattle.make_samples.specs.Writing.{WritesKeys, turns}
use Rattle.htl_samples.specs.declared.trace.TheConstants.{TRACE}
use Rattle.make_samples.proofs.writing.write_generated.Given as goal

abbrev pub invariant-loop-number : goal.invariant-loop-number
invariant-loop-number g l = record {
  written : WritesKeys (record TRACE { processors = l.generated.processors }) (turns l.generated.processors l.number)
      (g.W.Sink.state l.initial.out).contents (g.W.Sink.state l.out).contents;
  fine : (g.W.Sink.state l.out).failed ≡ false;
}
