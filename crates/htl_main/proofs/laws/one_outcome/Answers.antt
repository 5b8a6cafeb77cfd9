-- The law: a job over inputs and symbols comes to one outcome, whatever the number of workers.
use Rattle.htl_main.proofs.OneOutcome.{one_outcome, for_all_workers}
use Rattle.htl_main.proofs.laws.one_outcome.Goals as goal

pub returns-clause-one : goal.returns-clause-one
returns-clause-one c = one_outcome

pub returns-clause-workers : goal.returns-clause-workers
returns-clause-workers c = for_all_workers
