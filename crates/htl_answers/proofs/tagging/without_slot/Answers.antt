-- A turn adds one row more without its slot.
use Rattle.std.proofs.Common.{◌≡◌, ◌+◌, ◌++◌, ◌∷◌, [], map, take, refl, sym, ap, ◌∙◌}
use Rattle.std.proofs.lemmas.List.{take_more, map-append}
use Rattle.htl_answers.proofs.SlotLists.{strip}
use Rattle.htl_answers.proofs.tagging.without_slot.Goals as goal

pub loop-stack-preserved : goal.loop-stack-preserved
loop-stack-preserved c =
    let counts = c.args.counts.now in
    let i = c.loop-stack.stack-index in
    let row = c.loop-stack-item.result in
    let more : map strip (take (i + 1) counts) ≡ map strip (take i counts) ++ strip row ∷ [] =
    ap (map strip) (take_more counts i row c.loop-stack-test.true ∙ ap (λ x. take i counts ++ x ∷ []) (sym c.loop-stack-item.is))
    ∙ map-append strip (take i counts) (row ∷ []) in
    rw (more, c.in_ok-push.ensures.items, c.in_ok-copy.ensures, c.loop-stack.invariant) refl
