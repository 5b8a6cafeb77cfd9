-- The union of three sets is one, whichever two of them are united first.
use Rattle.htl_taken.proofs.SetLaws as lemmas
use Rattle.htl_taken.proofs.laws.union_is_associative.Goals as goal

pub returns : goal.returns
returns c = lemmas.associative
