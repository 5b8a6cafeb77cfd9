-- Standing states with the same keys are the same.
use Rattle.htl_analyst.proofs.MergeLaws as laws
use Rattle.htl_analyst.proofs.laws.equal_once_compacted.Goals as goal

pub returns : goal.returns
returns c = laws.equal_once_compacted
