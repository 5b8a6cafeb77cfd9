-- It is the least missing key, or else the first cut end that isn't known.
use Rattle.htl_main.proofs.coverage.Missed.fault.Goals as goal

pub returns-in_err-input-clause-none : goal.returns-in_err-input-clause-none
returns-in_err-input-clause-none c =
    rw (c.from_residual.ensures) (λ T is. record { whole = c.in_default.ensures.none T is; known = c.in_err-input.ensures.none T is })

pub returns-in_default-clause-some : goal.returns-in_default-clause-some
returns-in_default-clause-some c = λ T is. c.in_ok-input.ensures.some T is (c.in_default.ensures.none T is)

pub returns-clause-some : goal.returns-clause-some
returns-clause-some c = λ T is. c.in-Some.ensures.some T is
