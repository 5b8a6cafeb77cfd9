-- What is missing of the trace comes after the moment.
use Rattle.htl_case.proofs.FinalAnswers.{answers_are_final}
use Rattle.htl_case.proofs.laws.answers_are_final.Goals as goal

pub returns : goal.returns
returns c = answers_are_final
