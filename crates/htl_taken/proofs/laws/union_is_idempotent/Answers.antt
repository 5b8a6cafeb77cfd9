-- The union of a set with itself is that set.
use Rattle.htl_taken.proofs.SetLaws as lemmas
use Rattle.htl_taken.proofs.laws.union_is_idempotent.Goals as goal

pub returns : goal.returns
returns c = lemmas.idempotent
