-- A turn puts one row more the other way round, the stack first.
use Rattle.std.proofs.Common.{◌∷◌, [], ◌++◌, map, take, sym, ap, ◌∙◌, refl}
use Rattle.std.proofs.lemmas.List.{take_more, map-append}
use Rattle.htl_answers.specs.Leaks.{stack_before_number}
use Rattle.htl_answers.proofs.leaking.stack_first.Goals as goal

pub loop-number-preserved : goal.loop-number-preserved
loop-number-preserved c =
    let rows = c.args.leaks.now in
    let i = c.loop-number.number-index in
    let row = c.loop-number-item.result in
    let more = ap (map stack_before_number)
    (take_more rows i row c.loop-number-test.true ∙ ap (λ x. take i rows ++ x ∷ []) (sym c.loop-number-item.is))
    ∙ map-append stack_before_number (take i rows) (row ∷ []) in
    rw (more, c.in_ok-push.ensures.items, c.in_ok-copy.ensures, c.loop-number.invariant) refl
