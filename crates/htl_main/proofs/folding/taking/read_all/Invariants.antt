-- The folder took the segments of the sources so far, which were read to their ends.
use Rattle.std.proofs.Common.{List, map, take}
use Rattle.htl_device.specs.States.{IfKnown}
use Rattle.htl_segment.specs.Content.{Content}
use Rattle.htl_segment.specs.Keepers.{Took}
use Rattle.htl_inputs.specs.CutInputs.{AreCutEnds}
use Rattle.htl_inputs.specs.Inputs.{DecodeAll}
use Rattle.htl_inputs.proofs.ReadingLaws.{ReadBefore}
use Rattle.htl_main.specs.Folders.{folds_of}
use Rattle.htl_main.proofs.folding.taking.read_all.Given as goal
use Rattle.htl_inputs.specs.Readings.{AskForReaders}

abbrev pub invariant-loop-place : goal.invariant-loop-place
invariant-loop-place g l = record {
  before : ReadBefore l.setting.form.hex (map g.R.Source.state l.initial.sources) (map g.R.Source.state l.sources) l.place;
  readers : AskForReaders l.setting.form.hex l.setting.workers (map g.R.Source.state l.initial.sources) (map g.R.Source.state l.sources);
  took : IfKnown (map g.R.Source.state l.initial.sources) (λ inputs.
      (given : List Content) × DecodeAll l.setting.form (take l.place inputs) given × Took folds_of l.initial.folder l.folder given);
  cuts : IfKnown (map g.R.Source.state l.initial.sources) (λ inputs. AreCutEnds l.setting.form.hex (take l.place inputs) l.cuts.items);
}
