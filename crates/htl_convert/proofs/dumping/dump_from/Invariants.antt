-- The sources so far were read to their ends, and their segments dumped.
use Rattle.std.proofs.Common.{◌≡◌, map, take, false}
use Rattle.htl_device.specs.States.{IfKnown}
use Rattle.htl_inputs.specs.CutInputs.{AreCut}
use Rattle.htl_inputs.specs.Readings.{AskForReaders}
use Rattle.htl_inputs.proofs.ReadingLaws.{ReadBefore}
use Rattle.htl_convert.specs.Dumping.{OthersFit}
use Rattle.htl_convert.specs.Dumps.{Dumps}
use Rattle.htl_convert.proofs.dumping.dump_from.Given as goal

abbrev pub invariant-loop-place : goal.invariant-loop-place
invariant-loop-place g l = record {
  before : ReadBefore l.form.hex (map g.R.Source.state l.initial.inputs) (map g.R.Source.state l.inputs) l.place;
  readers : AskForReaders l.form.hex 1 (map g.R.Source.state l.initial.inputs) (map g.R.Source.state l.inputs);
  sound : (g.W.Sink.state l.out).failed ≡ false;
  dumped : IfKnown (map g.R.Source.state l.initial.inputs) (λ texts.
      Dumps l.form (take l.place texts) (g.W.Sink.state l.initial.out).contents (g.W.Sink.state l.out).contents);
  cut : IfKnown (map g.R.Source.state l.initial.inputs) (λ texts. AreCut l.form.hex (take l.place texts) l.cut);
  few : OthersFit l.cut l.place;
}
