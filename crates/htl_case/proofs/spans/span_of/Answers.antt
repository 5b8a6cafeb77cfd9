-- The segment behind each outline begins the span or widens it.
use Rattle.std.proofs.Common.{get_or, refl}
use Rattle.htl_segment.specs.declared.outline.Outline.{Outline}
use Rattle.htl_case.proofs.SpanLaws.{span_more_behind}
use Rattle.htl_case.proofs.spans.span_of.Goals as goal

abbrev no_outline : Outline
no_outline = record { trace_id = 0; processors = 0; processor = 0; number = 0; first = 0; last = 0 }

pub loop-outline-preserved : goal.loop-outline-preserved
loop-outline-preserved c = λ segments fit are.
    let outlines = c.args.outlines.now in
    let i = c.loop-outline.outline-index in
    span_more_behind outlines segments i (get_or outlines i no_outline) no_outline c.loop-outline.span c.widened-span.result fit are
    c.loop-outline-test.true refl c.widened-span.ensures (c.loop-outline.invariant segments fit are)
