-- The sources so far were read to their ends, and what is asked about of them was picked.
use Rattle.std.proofs.Common.{map, take, false}
use Rattle.htl_device.specs.States.{IfKnown}
use Rattle.htl_inputs.specs.CutInputs.{AreCutEnds}
use Rattle.htl_inputs.proofs.ReadingLaws.{ReadBefore}
use Rattle.htl_main.specs.Picking.{ArePicksOfAll}
use Rattle.htl_main.proofs.picks.picking.pick_all.Given as goal
use Rattle.htl_inputs.specs.Readings.{AskForReaders}

abbrev pub invariant-loop-place : goal.invariant-loop-place
invariant-loop-place g l = record {
  before : ReadBefore false (map g.R.Source.state l.initial.sources) (map g.R.Source.state l.sources) l.place;
  readers : AskForReaders false l.fn.workers (map g.R.Source.state l.initial.sources) (map g.R.Source.state l.sources);
  picked : IfKnown (map g.R.Source.state l.initial.sources) (λ texts. ArePicksOfAll l.fn.form l.fn.interest (take l.place texts) l.picks);
  cuts : IfKnown (map g.R.Source.state l.initial.sources) (λ texts. AreCutEnds l.fn.form.hex (take l.place texts) l.cuts.items);
}
