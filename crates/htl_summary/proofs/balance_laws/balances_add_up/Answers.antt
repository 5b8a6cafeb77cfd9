-- The objects of all balances are the unbalanced tags of all objects.
use Rattle.htl_summary.proofs.BalanceLaws.{balances_add_up}
use Rattle.htl_summary.proofs.balance_laws.balances_add_up.Goals as goal

pub returns : goal.returns
returns c = balances_add_up
