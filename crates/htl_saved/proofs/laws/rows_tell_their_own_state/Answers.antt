-- The state that rows of an analyst tell is the analyst's.
use Rattle.htl_saved.proofs.ToldBack.{tell_itself}
use Rattle.htl_saved.proofs.laws.rows_tell_their_own_state.Goals as goal

pub returns : goal.returns
returns c = tell_itself
