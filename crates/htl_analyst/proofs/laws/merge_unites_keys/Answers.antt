-- A number is taken below the greater front or is loose in either.
use Rattle.htl_analyst.proofs.Merges.{HasTaken-merged}
use Rattle.htl_analyst.proofs.laws.merge_unites_keys.Goals as goal

pub returns : goal.returns
returns c = HasTaken-merged
