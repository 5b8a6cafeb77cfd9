-- The held segments of the next part are new, and so are those behind it once they are taken.
use Rattle.std.proofs.Common.{◌∙◌, ap}
use Rattle.htl_state.specs.Rows.{Part}
use Rattle.htl_saved.proofs.NewSegments.{part_new, part_taken}
use Rattle.htl_saved.proofs.holding.take_held.Goals as goal

pub take_all-requires : goal.take_all-requires
take_all-requires c =
    part_new c.loop-part.analyst c.args.parts.now c.loop-part.part-index c.part-item.result c.deref.result.now c.loop-part-test.true
    c.part-item.is (c.deref.ensures.value ∙ ap (λ (p : Part). p.held) c.part.view_is) c.loop-part.invariant.0

pub loop-part-preserved : goal.loop-part-preserved
loop-part-preserved c =
    part_taken c.loop-part.analyst c.args.parts.now c.loop-part.part-index c.part-item.result c.deref.result.now c.loop-part-test.true
    c.part-item.is (c.deref.ensures.value ∙ ap (λ (p : Part). p.held) c.part.view_is) c.loop-part.invariant.0
    c.take_all.new.analyst _ c.in_ok-take_all.ensures c.loop-part.invariant.1
