-- A state above both is above their merge.
use Rattle.htl_analyst.proofs.MergeLaws as laws
use Rattle.htl_analyst.proofs.laws.merge_is_least.Goals as goal

pub returns : goal.returns
returns c = laws.least
