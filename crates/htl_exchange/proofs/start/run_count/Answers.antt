-- Once every processor was asked, all runs of the case are counted.
use Rattle.std.proofs.Common.{◌≤◌, ◌∙◌, arith}
use Rattle.htl_exchange.proofs.Fillings.{all_below}
use Rattle.htl_exchange.proofs.start.run_count.Goals as goal

pub returns-clause-runs : goal.returns-clause-runs
returns-clause-runs c =
    let over : c.args.case.now.processors ≤ c.loop-processor.processor = omega (arith, c.loop-processor-test.false, c.processors-processor-end.ensures) in
    c.loop-processor.invariant.0 ∙ all_below c.args.case.now c.loop-processor.processor c.segments-is_case.ensures.is_case over
