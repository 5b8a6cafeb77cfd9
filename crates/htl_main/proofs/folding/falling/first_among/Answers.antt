-- The new segment falls if it isn't above those below it, and else the next one, if that isn't above it.
use Rattle.std.proofs.Common.{◌∙◌, ap, arith}
use Rattle.htl_segment.specs.declared.outline.Outline.{Outline}
use Rattle.htl_main.proofs.FallingLaws.{first_is_self, first_is_within, some_events}
use Rattle.htl_main.proofs.folding.falling.first_among.Goals as goal

pub returns-then-outline-max : goal.returns-then-outline-max
returns-then-outline-max c = λ are new.
    let s = c.args.segment.now in
    let is = c.outline-outline.ensures in
    let first = ap (λ (o : Outline). o.first) is in
    let number = ap (λ (o : Outline). o.number) is in
    let split = rw number at (c.split_at_number.ensures s.processor are) in
    rw number (first_is_self c.args.held.now c.args.floor s c.requires are new
    (some_events s (λ none. c.if-outline-eq0.false (first ∙ none))) c.split_at_number.result.0.now c.split_at_number.result.1.now split
    c.last_sequence.result (c.last_sequence.ensures s.processor split.lower_are)
    (let low = c.if-outline-max.true in let most = c.max.ensures in omega (arith, first, low, most)))

pub returns : goal.returns
returns c = λ are new.
    let s = c.args.segment.now in
    let is = c.outline-outline.ensures in
    let first = ap (λ (o : Outline). o.first) is in
    let split = rw (ap (λ (o : Outline). o.number) is) at (c.split_at_number.ensures s.processor are) in
    first_is_within c.args.held.now c.args.floor s c.requires are new (some_events s (λ none. c.if-outline-eq0.false (first ∙ none)))
    c.split_at_number.result.0.now c.split_at_number.result.1.now split c.last_sequence.result
    (c.last_sequence.ensures s.processor split.lower_are)
    (let high = c.if-outline-max.false in let most = c.max.ensures in omega (arith, first, high, most)) c.first_within.result
    (rw (ap (λ (o : Outline). o.last) is) at (c.first_within.ensures s.processor split.higher_are))
