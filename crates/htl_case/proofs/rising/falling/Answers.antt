-- The first segment that falls has the least such key.
use Rattle.std.proofs.Common.{get_or, refl, rules}
use Rattle.htl_segment.specs.declared.outline.Outline.{Outline}
use Rattle.htl_case.proofs.Scanned.{scan_more, scan_found, scan_all}
use Rattle.htl_case.proofs.rising.falling.Goals as goal

abbrev no_outline : Outline
no_outline = record { trace_id = 0; processors = 0; processor = 0; number = 0; first = 0; last = 0 }

pub returns-then-begins_within : goal.returns-then-begins_within
returns-then-begins_within c =
    let begun = c.begins_within.ensures.0 c.if-begins_within.true in
    rw c.key.ensures (scan_found c.args.outlines.now c.loop-outline.outline-index
    (get_or c.args.outlines.now c.loop-outline.outline-index no_outline) no_outline c.loop-outline-test.true refl
    c.loop-outline.processor c.loop-outline.highest c.floor_of-floor.result c.loop-outline.invariant c.floor_of-floor.ensures
    begun.0 begun.1)

pub loop-outline-preserved : goal.loop-outline-preserved
loop-outline-preserved c = rw c.max-highest.ensures (scan_more c.args.outlines.now c.loop-outline.outline-index
    (get_or c.args.outlines.now c.loop-outline.outline-index no_outline) no_outline c.loop-outline-test.true refl
    c.loop-outline.processor c.loop-outline.highest c.floor_of-floor.result c.loop-outline.invariant c.floor_of-floor.ensures
    (λ begun. search (rules, begun)))

pub returns : goal.returns
returns c = scan_all c.args.outlines.now c.loop-outline.outline-index c.loop-outline.processor c.loop-outline.highest
    c.loop-outline-test.false c.loop-outline.invariant
