-- What a part folded and what it holds add up to its tree.
use Rattle.std.proofs.Common.{List, length, ap, sym, subst, arith}
use Rattle.std.proofs.lemmas.Result.{IfOk-weaker}
use Rattle.htl_event.specs.Events.{Event}
use Rattle.htl_tree.specs.Trees.{HasTally, total_count}
use Rattle.htl_answers.proofs.WholeLemmas.{tally_append, sum_turned}
use Rattle.htl_answers.proofs.whole.tree_of_part.Goals as goal

pub plus-requires : goal.plus-requires
plus-requires g c =
    let same = ap total_count c.tree.ensures in
    let its = ap length c.held.ensures in
    omega (arith, same, its, c.requires, c.in_ok-held.ensures.total)

pub returns-clause-tally : goal.returns-clause-tally
returns-clause-tally g c =
    let part = g.P.Part.contents c.args.part.now in
    let held = c.in_ok-held.held in
    let tallied : HasTally held part.held = subst (λ (es : List Event). HasTally held es) c.held.ensures c.in_ok-held.ensures.tally in
    IfOk-weaker c.plus.result _ _ (λ sum is folded of_folded.
    tally_append sum c.tree.result.now held folded part.held (sum_turned sum held c.tree.result.now is)
    (subst (λ t. HasTally t folded) (sym c.tree.ensures) of_folded) tallied) c.plus.ensures.tally

pub returns-clause-total : goal.returns-clause-total
returns-clause-total g c =
    let same = ap total_count c.tree.ensures in
    let its = ap length c.held.ensures in
    IfOk-weaker c.plus.result _ _ (λ sum is. omega (arith, same, its, is, c.in_ok-held.ensures.total)) c.plus.ensures.total
