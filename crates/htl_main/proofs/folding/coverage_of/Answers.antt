-- What is missing of what was taken says what its coverage is, and whether it is complete.
use Rattle.std.proofs.Common.{inl, inr, refl}
use Rattle.std.proofs.lemmas.Result.{err_from_is_err_and}
use Rattle.htl_main.proofs.folding.coverage_of.Goals as goal

pub returns-clause-ok : goal.returns-clause-ok
returns-clause-ok c = λ segments T folded all.
    let missed = c.in_ok-missed.ensures segments T folded all in
    (c.coverage.ensures T missed, λ complete. c.in_ok-check_gaps.ensures.ok complete T missed)

pub returns-in_err-missed-clause-err : goal.returns-in_err-missed-clause-err
returns-in_err-missed-clause-err c =
    let p = err_from_is_err_and c.from_residual.result c.from_residual.ensures.1 in
    rw (p.1, p.2) (inl refl)

pub returns-in_err-check_gaps-clause-err : goal.returns-in_err-check_gaps-clause-err
returns-in_err-check_gaps-clause-err c =
    let p = err_from_is_err_and c.from_residual-in_err-check_gaps.result c.from_residual-in_err-check_gaps.ensures.1 in
    let missing = c.in_err-check_gaps.ensures.err in
    rw (p.1, p.2) (inr (
      c.in_err-check_gaps.ensures.names,
      missing.0,
      λ segments T folded all. (missing.1 T (c.in_ok-missed.ensures segments T folded all)).1,
    ))
