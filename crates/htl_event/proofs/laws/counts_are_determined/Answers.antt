-- Each answer about counts is the only one.
use Rattle.htl_event.proofs.Counts.{counts_are_determined}
use Rattle.htl_event.proofs.laws.counts_are_determined.Goals as goal

pub returns : goal.returns
returns c = counts_are_determined
