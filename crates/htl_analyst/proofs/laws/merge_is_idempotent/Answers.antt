-- A merge with itself has the same fronts and loose numbers.
use Rattle.htl_analyst.proofs.MergeLaws as laws
use Rattle.htl_analyst.proofs.laws.merge_is_idempotent.Goals as goal

pub returns : goal.returns
returns c = laws.idempotent
