-- Each answer about balances is the only one.
use Rattle.htl_event.proofs.Balanced.{balances_are_determined}
use Rattle.htl_event.proofs.laws.balances_are_determined.Goals as goal

pub returns : goal.returns
returns c = balances_are_determined
