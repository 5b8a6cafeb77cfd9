-- The sequences of one segment more are put after the others, and one segment more fits.
use Rattle.std.proofs.Common.{rules}
use Rattle.std.proofs.lemmas.List.Elements.{All-more}
use Rattle.htl_segment.specs.Content.{Fits}
use Rattle.htl_case.proofs.Gathered.{sequences_more}
use Rattle.htl_case.proofs.sequences.sequences_of.Goals as goal

pub loop-segment-preserved : goal.loop-segment-preserved
loop-segment-preserved c = record {
  value = sequences_more c.args.segments.now c.loop-segment.segment-index c.segment-item.result c.loop-segment.sequences.items
      c.push_sequences.new.sequences.items c.loop-segment-test.true c.segment-item.is c.loop-segment.invariant.value (search rules);
  fit = All-more Fits c.args.segments.now c.loop-segment.segment-index c.segment-item.result c.loop-segment-test.true
      c.loop-segment.invariant.fit (rw (← c.segment-item.is) c.events.ensures.fits);
}
