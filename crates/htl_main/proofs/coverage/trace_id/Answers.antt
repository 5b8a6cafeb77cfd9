-- The first outline has the id of the trace.
use Rattle.std.proofs.Common.{sym}
use Rattle.htl_main.proofs.Missing.{outlines_id}
use Rattle.htl_main.proofs.coverage.trace_id.Goals as goal

pub returns-in-Some : goal.returns-in-Some
returns-in-Some c = λ T processors are.
    outlines_id T processors c.args.outlines.now c.in-Some.outline.now are (sym c.in-Some.ensures.value)
