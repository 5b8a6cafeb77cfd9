-- A processor's size is the length of the list of its taken numbers.
use Rattle.htl_taken.proofs.SetLaws as lemmas
use Rattle.htl_taken.proofs.laws.size_counts_numbers.Goals as goal

pub returns : goal.returns
returns c = lemmas.counts_numbers
