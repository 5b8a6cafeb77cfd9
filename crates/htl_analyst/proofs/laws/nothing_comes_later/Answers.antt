-- What is missing lies above the moment.
use Rattle.htl_analyst.proofs.Falling as falling
use Rattle.htl_analyst.proofs.laws.nothing_comes_later.Goals as goal

pub returns : goal.returns
returns c = falling.nothing_comes_later
