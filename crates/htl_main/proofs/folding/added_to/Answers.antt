-- What an analyst tells of its trace says how many segments were added and how much of the trace it has.
use Rattle.std.proofs.Common.{arith, refl}
use Rattle.std.proofs.lemmas.Result.{err_from_is_err_and}
use Rattle.htl_main.proofs.folding.added_to.Goals as goal

pub returns-clause-ok : goal.returns-clause-ok
returns-clause-ok c = record {
  analyst = c.in-Some.analyst;
  there = c.in-Some.is;
  segments_are = refl;
  new_are = rw (c.in-Some.is) (omega (arith, c.saturating_sub.ensures, c.taken.ensures));
  covered = rw (← c.deref.ensures.value) c.in_ok-coverage.ensures.ok;
  cut_is = rw (← c.deref-2.ensures.value) c.cut_inputs.ensures;
}

pub returns-in_err-coverage-clause-err : goal.returns-in_err-coverage-clause-err
returns-in_err-coverage-clause-err c =
    let p = err_from_is_err_and c.from_residual.result c.from_residual.ensures.1 in
    rw (p.1, p.2, c.in-Some.is, ← c.deref.ensures.value) (c.in_err-coverage.ensures.err)
