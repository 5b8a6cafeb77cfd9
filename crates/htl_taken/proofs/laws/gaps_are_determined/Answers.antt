-- One set of segments has one list of gaps.
use Rattle.htl_taken.proofs.Gaps.{gaps_are_determined}
use Rattle.htl_taken.proofs.laws.gaps_are_determined.Goals as goal

pub returns : goal.returns
returns c = gaps_are_determined
