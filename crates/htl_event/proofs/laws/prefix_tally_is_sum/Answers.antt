-- The prefix tally is the sum over the stacks that begin with the path.
use Rattle.htl_event.proofs.Sums.{prefix_tally_is_sum}
use Rattle.htl_event.proofs.laws.prefix_tally_is_sum.Goals as goal

pub returns : goal.returns
returns c = prefix_tally_is_sum
