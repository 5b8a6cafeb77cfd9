-- The law: what the answer of a job finds in its inputs is one thing.
use Rattle.htl_main.proofs.OneOutcome.{one_finding}
use Rattle.htl_main.proofs.laws.one_finding.Goals as goal

pub returns : goal.returns
returns c = one_finding
