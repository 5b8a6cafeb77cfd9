-- One processor more writes the segment of one key more.
use Rattle.std.proofs.Common.{[], ◌∷◌}
use Rattle.htl_samples.specs.declared.trace.Trace.{Trace}
use Rattle.htl_samples.specs.declared.trace.TheConstants.{TRACE}
use Rattle.make_samples.specs.Writing.{turn}
use Rattle.make_samples.proofs.Written.{keys-both, keys-one, turn-more}
use Rattle.make_samples.proofs.writing.write_turn.Goals as goal

pub loop-processor-preserved : goal.loop-processor-preserved
loop-processor-preserved g c =
    let trace : Trace = record TRACE { processors = c.args.generated.now.processors } in
    let p = c.loop-processor.processor in
    let n = c.args.number in
    let mid = (g.W.Sink.state c.loop-processor.out).contents in
    let new = (g.W.Sink.state c.write_segment.new.out).contents in
    record {
      written = rw (turn-more p n) (keys-both trace (turn p n) ((p, n) ∷ []) (g.W.Sink.state c.args.out.now).contents mid new
          c.loop-processor.invariant.written
          (keys-one trace c.in_ok-segment.segment p n mid new c.in_ok-segment.ensures.key.0 c.in_ok-segment.ensures.key.1
          c.in_ok-write_segment.ensures.ok));
      fine = c.in_ok-write_segment.ensures.fine;
    }
