-- Each answer as of a moment is final where no segment is missing up to it.
use Rattle.htl_main.proofs.FinalAnswers.{answers_of_runs_are_final}
use Rattle.htl_main.proofs.laws.answers_of_runs_are_final.Goals as goal

pub returns : goal.returns
returns c = answers_of_runs_are_final
