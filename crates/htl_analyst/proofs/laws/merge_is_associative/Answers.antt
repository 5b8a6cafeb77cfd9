-- Merges in either order have equal fronts and loose numbers.
use Rattle.htl_analyst.proofs.MergeLaws as laws
use Rattle.htl_analyst.proofs.laws.merge_is_associative.Goals as goal

pub returns : goal.returns
returns c = laws.associative
