-- A union has the segments of both sets, and no other.
use Rattle.htl_taken.proofs.SetLaws as lemmas
use Rattle.htl_taken.proofs.laws.union_unites_keys.Goals as goal

pub returns : goal.returns
returns c = lemmas.unites_keys
