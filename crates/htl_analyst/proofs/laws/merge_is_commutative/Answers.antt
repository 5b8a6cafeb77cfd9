-- Merges either way have equal fronts and loose numbers.
use Rattle.htl_analyst.proofs.MergeLaws as laws
use Rattle.htl_analyst.proofs.laws.merge_is_commutative.Goals as goal

pub returns : goal.returns
returns c = laws.commutative
