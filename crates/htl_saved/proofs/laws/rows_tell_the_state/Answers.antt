-- Analysts that have the same rows are the same.
use Rattle.htl_saved.proofs.Told.{tell_the_state}
use Rattle.htl_saved.proofs.laws.rows_tell_the_state.Goals as goal

pub returns : goal.returns
returns c = tell_the_state
