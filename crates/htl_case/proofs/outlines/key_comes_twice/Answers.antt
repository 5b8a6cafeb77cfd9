-- Where a key isn't that of the outline before it, it comes once among those that were gone through.
use Rattle.std.proofs.Common.{get_or, refl, rules}
use Rattle.htl_segment.specs.declared.outline.Outline.{Outline}
use Rattle.htl_case.proofs.Outlined.{gone_more}
use Rattle.htl_case.proofs.outlines.key_comes_twice.Goals as goal

abbrev no_outline : Outline
no_outline = record { trace_id = 0; processors = 0; processor = 0; number = 0; first = 0; last = 0 }

pub loop-outline-preserved : goal.loop-outline-preserved
loop-outline-preserved c = gone_more c.args.outlines.now c.in-Some.rest.now c.loop-outline.outline-index c.loop-outline.last.now
    (get_or c.in-Some.rest.now c.loop-outline.outline-index no_outline) no_outline c.loop-outline-test.true refl
    (λ same. search (rules, same)) c.loop-outline.invariant
