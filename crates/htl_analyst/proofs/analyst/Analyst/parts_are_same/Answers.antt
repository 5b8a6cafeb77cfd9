-- A processor more is the same on both sides.
use Rattle.std.proofs.Common.{below_more}
use Rattle.htl_analyst.proofs.analyst.Analyst.parts_are_same.Goals as goal

pub loop-processor-preserved : goal.loop-processor-preserved
loop-processor-preserved g c =
    let same = c.same.ensures.0 c.if-not-same.false in
    below_more _ _ c.loop-processor.invariant (rw (c.part.ensures.value, c.part-in-loop-processor.ensures.value) at same)
