-- Settled sets with the same segments are equal.
use Rattle.htl_taken.proofs.SetLaws as lemmas
use Rattle.htl_taken.proofs.laws.settled_sets_are_determined.Goals as goal

pub returns : goal.returns
returns c = lemmas.determined
