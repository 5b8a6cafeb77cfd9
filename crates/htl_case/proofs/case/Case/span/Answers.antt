-- Each segment of the case begins the span or widens it.
use Rattle.htl_case.proofs.Counted.{fits_at}
use Rattle.htl_case.proofs.SpanLaws.{span_more}
use Rattle.htl_case.proofs.case.Case.span.Goals as goal

pub loop-segment-preserved : goal.loop-segment-preserved
loop-segment-preserved c =
    let segments = c.segments-segment-items.result.now in
    let same = c.segments-segment-items.ensures.value in
    let i = c.loop-segment.segment-index in
    let fits = fits_at segments c.args.self.now.segments i c.segment-item.result same c.segments-segment-items.ensures.is_case.trace.fit
    c.loop-segment-test.true c.segment-item.is in (
      same,
      span_more segments i c.segment-item.result c.outline.result c.loop-segment.span c.widened-span.result c.loop-segment-test.true
          c.segment-item.is fits c.outline.ensures c.widened-span.ensures c.loop-segment.invariant.1,
    )
