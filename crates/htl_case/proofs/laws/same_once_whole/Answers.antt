-- The keys of both are all that the trace has.
use Rattle.htl_case.proofs.Headlines.{same_once_whole}
use Rattle.htl_case.proofs.laws.same_once_whole.Goals as goal

pub returns : goal.returns
returns c = same_once_whole
