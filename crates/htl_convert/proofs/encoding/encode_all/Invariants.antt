-- The sources so far were read to their ends, and the bytes are those of the segments that their texts encode.
use Rattle.std.proofs.Common.{map, take, true}
use Rattle.htl_device.specs.States.{IfKnown}
use Rattle.htl_inputs.specs.Readings.{AskForReaders}
use Rattle.htl_inputs.proofs.ReadingLaws.{ReadBefore}
use Rattle.htl_convert.proofs.EncodeLaws.{GiveAll}
use Rattle.htl_convert.proofs.encoding.encode_all.Given as goal

abbrev pub invariant-loop-place : goal.invariant-loop-place
invariant-loop-place g l = record {
  before : ReadBefore true (map g.R.Source.state l.initial.sources) (map g.R.Source.state l.sources) l.place;
  readers : AskForReaders true 1 (map g.R.Source.state l.initial.sources) (map g.R.Source.state l.sources);
  encoded : IfKnown (map g.R.Source.state l.initial.sources) (λ texts. GiveAll (take l.place texts) l.bundle.items);
}
