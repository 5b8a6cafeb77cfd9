-- A state is made again of its folds and its held segments.
use Rattle.htl_analyst.proofs.Restores.{made_again}
use Rattle.htl_analyst.proofs.laws.analysts_are_made_again.Goals as goal

pub returns : goal.returns
returns c = made_again
