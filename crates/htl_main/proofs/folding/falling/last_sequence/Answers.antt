-- The last segment with events has the last sequence.
use Rattle.std.proofs.Common.{ap}
use Rattle.htl_segment.specs.declared.outline.Outline.{Outline}
use Rattle.htl_main.proofs.FallingLaws.{greatest_of_last, greatest_of_none}
use Rattle.htl_main.proofs.folding.falling.last_sequence.Goals as goal

pub returns-in-Some : goal.returns-in-Some
returns-in-Some c = λ p are. greatest_of_last p c.args.segments.now are c.in-Some.last.now c.outline.result.last (c.in-Some.ensures are.order)
    (ap (λ (o : Outline). o.last) c.outline.ensures)

pub returns-in-None : goal.returns-in-None
returns-in-None c = λ p are. greatest_of_none p c.args.segments.now are (c.in-None.ensures are.order)
