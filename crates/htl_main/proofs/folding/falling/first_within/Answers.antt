-- The first segment with events has the least sequence.
use Rattle.std.proofs.Common.{leb, ap, refl}
use Rattle.htl_segment.specs.declared.outline.Outline.{Outline}
use Rattle.htl_main.proofs.FallingLaws.{empty_within, within_by_test}
use Rattle.htl_main.proofs.folding.falling.first_within.Goals as goal

pub returns-in_err-first_with_event : goal.returns-in_err-first_with_event
returns-in_err-first_with_event c = λ p are.
    rw (c.from_residual.ensures) (empty_within c.args.segments.now c.args.sequence (c.in_err-first_with_event.ensures are.order))

pub returns : goal.returns
returns c = λ p are.
    let next = c.outline-next.result in
    let x = c.in_ok-first_with_event.field-0.now in
    rw (c.then_some.ensures, ap (λ (o : Outline). o.number) c.outline-next.ensures) (within_by_test p c.args.segments.now are x next.first
    c.args.sequence (leb next.first c.args.sequence) (c.in_ok-first_with_event.ensures are.order)
    (ap (λ (o : Outline). o.first) c.outline-next.ensures) refl)
