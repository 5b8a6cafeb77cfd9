-- The greatest sequence rises to that of one more event of the kind and process, and stays for others.
use Rattle.htl_tables.proofs.NotingLaws as lemmas
use Rattle.htl_tables.proofs.laws.noting_keeps_the_greatest.Goals as goal

pub returns : goal.returns
returns c = lemmas.keeps_greatest
