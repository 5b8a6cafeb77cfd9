-- Each call of `latest_of_process` has half as many parts, so the calls end.
use Rattle.std.proofs.Common.{length}
use Rattle.htl_answers.proofs.open.+latest_of_process.Given as goal

abbrev pub decreases-latest_of_process : goal.decreases-latest_of_process
decreases-latest_of_process g l = length l.parts.now
