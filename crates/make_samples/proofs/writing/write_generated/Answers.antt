-- One turn more writes the segments of its keys.
use Rattle.htl_samples.specs.declared.trace.Trace.{Trace}
use Rattle.htl_samples.specs.declared.trace.TheConstants.{TRACE}
use Rattle.make_samples.specs.Writing.{turn, turns}
use Rattle.make_samples.proofs.Written.{keys-both, turns-more}
use Rattle.make_samples.proofs.writing.write_generated.Goals as goal

pub loop-number-preserved : goal.loop-number-preserved
loop-number-preserved g c =
    let trace : Trace = record TRACE { processors = c.args.generated.now.processors } in
    let p = c.args.generated.now.processors in
    let n = c.loop-number.number in
    record {
      written = rw (turns-more p n) (keys-both trace (turns p n) (turn p n) (g.W.Sink.state c.args.out.now).contents
          (g.W.Sink.state c.loop-number.out).contents (g.W.Sink.state c.write_turn.new.out).contents c.loop-number.invariant.written
          c.in_ok-write_turn.ensures.ok);
      fine = c.in_ok-write_turn.ensures.fine;
    }
