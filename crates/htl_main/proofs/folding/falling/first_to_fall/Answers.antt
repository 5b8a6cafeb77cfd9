-- What an analyst holds of the processor, and what it has folded of it, tells what falls.
use Rattle.std.proofs.Common.{◌≡◌, ◌∙◌, ap, true}
use Rattle.htl_analyst.specs.States.{folded_at}
use Rattle.htl_main.proofs.FallingLaws.{first_in_state}
use Rattle.htl_main.proofs.folding.falling.first_to_fall.Goals as goal

pub returns : goal.returns
returns c = λ rising.
    let a = c.args.analyst.now in
    let yes : c.is_new_to.result ≡ true = cc in
    first_in_state a c.args.segment.now c.index-parts-from.result c.held.result.now c.last_folded.result c.first_among.result
    (c.is_new_to.ensures.state yes) c.requires (c.is_new_to.ensures.yes yes) rising
    (rw (c.parts.ensures.value, c.from.ensures, c.processor-processor.ensures.value) at c.index-parts-from.is) c.held.ensures
    (c.last_folded.ensures.kept ∙ ap (λ p. (folded_at a.parts p).last_sequence) c.processor-processor.ensures.value) c.first_among.ensures
