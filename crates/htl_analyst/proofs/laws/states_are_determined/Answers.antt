-- Fronts and loose numbers determine a state that is right.
use Rattle.htl_analyst.proofs.Determined.{determined}
use Rattle.htl_analyst.proofs.laws.states_are_determined.Goals as goal

pub returns : goal.returns
returns c = determined
