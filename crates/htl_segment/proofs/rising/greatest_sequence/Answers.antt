-- With one segment more, the greatest sequence is that so far or the segment's last.
use Rattle.htl_segment.proofs.Greatest.{greatest_none, greatest_of_all, greatest_of_more}
use Rattle.htl_segment.proofs.rising.greatest_sequence.Goals as goal

pub loop-segment-init : goal.loop-segment-init
loop-segment-init c = greatest_none

pub loop-segment-preserved : goal.loop-segment-preserved
loop-segment-preserved c =
    greatest_of_more c.args.segments.now c.loop-segment.segment-index c.segment-item.result c.loop-segment.greatest c.last_sequence.result
    c.max-greatest.result c.loop-segment-test.true c.segment-item.is c.max-greatest.ensures c.last_sequence.ensures c.loop-segment.invariant

pub returns : goal.returns
returns c =
    greatest_of_all c.args.segments.now c.loop-segment.segment-index c.loop-segment.greatest c.loop-segment-test.false
    c.loop-segment.invariant
