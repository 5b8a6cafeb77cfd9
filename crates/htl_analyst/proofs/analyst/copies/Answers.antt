-- One part more is copied as it is.
use Rattle.std.proofs.Common.{◌≡◌, ◌∙◌, List, ap, sym, ◌∷◌, [], ◌++◌, take}
use Rattle.std.proofs.lemmas.List.{take_more}
use Rattle.htl_analyst.specs.States.{Part}
use Rattle.htl_analyst.proofs.analyst.copies.Goals as goal

pub loop-part-preserved : goal.loop-part-preserved
loop-part-preserved g c =
    let e : c.in_ok-copy.field-0 ≡ c.part-item.result = c.in_ok-copy.ensures in
    c.in_ok-push.ensures.items
    ∙ ap (λ (ks : List Part). ks ++ c.in_ok-copy.field-0 ∷ []) c.loop-part.invariant
    ∙ ap (λ (k : Part). take c.loop-part.part-index c.args.parts.now ++ k ∷ []) (e ∙ c.part-item.is)
    ∙ sym (take_more c.args.parts.now c.loop-part.part-index c.part-item.result c.loop-part-test.true)
