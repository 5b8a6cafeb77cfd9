-- A fold of one processor more keeps the state right, its keys, and what is complete.
use Rattle.std.proofs.Common.{arith, ap, subst}
use Rattle.std.proofs.lemmas.Result.{err_from_is_err_and}
use Rattle.htl_analyst.specs.States.{State}
use Rattle.htl_analyst.specs.Right.{IsState}
use Rattle.htl_analyst.proofs.Compactions.{compacted_all, compacted_so_far}
use Rattle.htl_analyst.proofs.Compacts.{AreCompacted-none, AreCompacted-more}
use Rattle.htl_analyst.proofs.analyst.Analyst.compact.Goals as goal

pub loop-processor-init : goal.loop-processor-init
loop-processor-init g c = AreCompacted-none c.args.self.now (subst IsState c.self.view_is c.self.invariant)

pub loop-processor-preserved : goal.loop-processor-preserved
loop-processor-preserved g c =
    let e = ap (λ (x : State). x.processors) c.self.view_is in
    AreCompacted-more c.args.self.now c.loop-processor.self c.fold.new.self c.loop-processor.processor c.loop-processor.invariant
    (omega (arith, e, c.loop-processor.invariant.processors, c.loop-processor-test.true)) c.in_ok-fold.ensures.ok

pub returns-in_err-fold : goal.returns-in_err-fold
returns-in_err-fold g c =
    let p = err_from_is_err_and c.from_residual.result c.from_residual.ensures.1 in
    rw (c.in_err-fold.ensures.err, p.1) (compacted_so_far c.args.self.now c.loop-processor.self c.loop-processor.processor c.loop-processor.invariant _)

pub returns : goal.returns
returns g c =
    let e = ap (λ (x : State). x.processors) c.self.view_is in
    compacted_all c.args.self.now c.loop-processor.self c.loop-processor.processor c.loop-processor.invariant _
    (omega (arith, e, c.loop-processor-test.false))
