-- What is read is spelled, and what is spelled is read.
use Rattle.htl_state.proofs.States.{state_sound, state_complete}
use Rattle.htl_state.proofs.laws.states_are_read.Goals as goal

pub returns : goal.returns
returns c = λ bytes s small. (state_sound bytes s small, state_complete bytes s)
