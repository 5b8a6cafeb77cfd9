-- The segments with the keys of the case are its segments.
use Rattle.htl_case.proofs.TakenCases.{taken_cases_answer}
use Rattle.htl_case.proofs.laws.answers_are_of_the_case.Goals as goal

pub returns : goal.returns
returns c = taken_cases_answer
