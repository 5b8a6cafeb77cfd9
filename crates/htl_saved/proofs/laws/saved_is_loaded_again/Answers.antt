-- What is saved of a standing analyst is loaded as it.
use Rattle.htl_saved.proofs.LoadedAgain.{are_loaded_again}
use Rattle.htl_saved.proofs.laws.saved_is_loaded_again.Goals as goal

pub returns : goal.returns
returns c = are_loaded_again
