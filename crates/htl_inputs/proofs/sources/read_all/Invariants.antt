-- The segments are those of the sources so far, which were read to their ends.
use Rattle.std.proofs.Common.{map}
use Rattle.htl_device.specs.States.{IfKnown}
use Rattle.htl_inputs.proofs.ReadingLaws.{ReadBefore}
use Rattle.htl_inputs.proofs.SpanLaws.{IsSoFar}
use Rattle.htl_inputs.proofs.sources.read_all.Given as goal
use Rattle.htl_inputs.specs.Readings.{AskForReaders}

abbrev pub invariant-loop-place : goal.invariant-loop-place
invariant-loop-place g l = record {
  before : ReadBefore l.form.hex (map g.R.Source.state l.initial.sources) (map g.R.Source.state l.sources) l.place;
  readers : AskForReaders l.form.hex l.fn.workers (map g.R.Source.state l.initial.sources) (map g.R.Source.state l.sources);
  decoded : IfKnown (map g.R.Source.state l.initial.sources) (λ texts. IsSoFar l.form texts l.place l.decoded);
}
