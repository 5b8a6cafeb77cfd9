-- Parts are tried in turn, and all are bounded where none was refused.
use Rattle.std.proofs.Common.{length, refl}
use Rattle.std.proofs.lemmas.Result.{err_from_is_err_and}
use Rattle.htl_analyst.proofs.Restores.{no_number, refused_at, bounded_more, can_restore}
use Rattle.htl_analyst.proofs.restoring.check_parts.Goals as goal

pub returns-in_err-check_number-clause-refused : goal.returns-in_err-check_number-clause-refused
returns-in_err-check_number-clause-refused g c =
    let p = err_from_is_err_and c.from_residual.result c.from_residual.ensures.1 in
    rw (p.1, p.2) (no_number c.args.parts.now (length c.args.parts.now) c.in_err-check_number.field-0.0 refl c.in_err-check_number.ensures.err)

pub returns-in_err-check-clause-refused : goal.returns-in_err-check-clause-refused
returns-in_err-check-clause-refused g c =
    let p = err_from_is_err_and c.from_residual-in_err-check.result c.from_residual-in_err-check.ensures.1 in
    rw (p.1, p.2) (refused_at c.args.parts.now (length c.args.parts.now) c.loop-processor.processor c.index-parts-processor.result
    c.in_err-check.field-0.0 refl c.in_ok-check_number.ensures.ok.1 c.loop-processor-test.true c.index-parts-processor.is
    c.loop-processor.invariant c.in_err-check.ensures.over)

pub loop-processor-preserved : goal.loop-processor-preserved
loop-processor-preserved g c = bounded_more c.args.parts.now c.loop-processor.processor c.index-parts-processor.result c.loop-processor-test.true
    c.index-parts-processor.is c.loop-processor.invariant c.in_ok-check.ensures.bounded

pub returns-clause-accepted : goal.returns-clause-accepted
returns-clause-accepted g c = can_restore c.args.parts.now (length c.args.parts.now) c.loop-processor.processor refl
    c.in_ok-check_number.ensures.ok c.loop-processor-test.false c.loop-processor.invariant
