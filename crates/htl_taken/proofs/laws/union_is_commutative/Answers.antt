-- The union of two sets is one either way round.
use Rattle.htl_taken.proofs.SetLaws as lemmas
use Rattle.htl_taken.proofs.laws.union_is_commutative.Goals as goal

pub returns : goal.returns
returns c = lemmas.commutative
