-- What is missing of what was folded says what its coverage is, and which key is the least that is missing.
use Rattle.htl_main.proofs.folding.states.coverage_of_all.Goals as goal

pub returns-in-Some-least-clause-err : goal.returns-in-Some-least-clause-err
returns-in-Some-least-clause-err c = (
  c.if-complete.true,
  λ segments T folded all. c.in-Some-least.ensures.some T (c.in_ok-missed.ensures segments T (rw c.in-Some.is at folded) all),
)

pub returns-clause-ok : goal.returns-clause-ok
returns-clause-ok c = λ segments T folded all.
    c.coverage.ensures T (c.in_ok-missed.ensures segments T (rw c.in-Some.is at folded) all)
