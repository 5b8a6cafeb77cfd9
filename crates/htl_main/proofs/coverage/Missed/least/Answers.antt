-- It is the first missing number of the first processor that misses a segment.
use Rattle.htl_main.proofs.Missing.{least_missing, within}
use Rattle.htl_main.proofs.coverage.Missed.least.Goals as goal

pub returns-in_err-processor-clause-none : goal.returns-in_err-processor-clause-none
returns-in_err-processor-clause-none c = rw (c.from_residual.ensures) (λ T is. c.in_err-processor.ensures T is)

pub returns-clause-some : goal.returns-clause-some
returns-clause-some c = λ T is.
    let short = c.in_ok-processor.ensures T is in
    let inside = within T c.args.cuts.now c.in_ok-processor.processor short.0 in
    least_missing T c.args.cuts.now c.in_ok-processor.processor c.front.result short (c.front.ensures T is inside)
