-- Each answer about handles is the only one.
use Rattle.htl_event.proofs.Determined.{handles_are_determined}
use Rattle.htl_event.proofs.laws.handles_are_determined.Goals as goal

pub returns : goal.returns
returns c = handles_are_determined
