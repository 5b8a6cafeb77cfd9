-- The notes on the inputs are said one after the other.
use Rattle.htl_program.proofs.Told.{all_told}
use Rattle.htl_program.proofs.saying.note_inputs.Goals as goal

pub returns : goal.returns
returns g c = all_told _ _ _ _ _ c.note_gaps.ensures c.note_cut.ensures
