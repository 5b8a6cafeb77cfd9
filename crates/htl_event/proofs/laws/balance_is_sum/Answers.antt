-- The balance is the sum over all stacks.
use Rattle.htl_event.proofs.Sums.{balance_is_sum}
use Rattle.htl_event.proofs.laws.balance_is_sum.Goals as goal

pub returns : goal.returns
returns c = balance_is_sum
