-- Sets with the same keys are one set, over which a question has one answer.
use Rattle.htl_case.proofs.Determined.{answers_are_determined}
use Rattle.htl_case.proofs.laws.answers_are_determined.Goals as goal

pub returns : goal.returns
returns c = answers_are_determined
