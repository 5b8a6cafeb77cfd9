-- Counts over two lists put together are sums.
use Rattle.htl_event.proofs.Counts.{counts_add_up}
use Rattle.htl_event.proofs.laws.counts_add_up.Goals as goal

pub returns : goal.returns
returns c = counts_add_up
