-- The latest event with one more noted is the latest of the list with that event.
use Rattle.htl_tables.proofs.NotingLaws as lemmas
use Rattle.htl_tables.proofs.laws.noting_keeps_the_latest.Goals as goal

pub returns : goal.returns
returns c = lemmas.keeps_latest
